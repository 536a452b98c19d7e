use Rattle.r9_draw.specs.draw.World.{world_of}
use Rattle.r9_isol.specs.isol.World.{desktop_of}
use Rattle.r9_isol.proofs.isol.Telling.{told}
use Rattle.r9_isol.proofs.isol.desktop.Desktop.note.Goals as goal

pub returns : goal.returns
unfolding desktop_of
returns c =
    told c.args.self.now (world_of c.obey.new.device) c.replace-window.result c.in_ok-self.field-0 c.serial.result c.in_ok-orders.orders c.args.note.now
    c.serial.ensures c.in_ok-orders.ensures c.in_ok-obey.ensures c.replace-window.ensures.value c.in_ok-self.ensures
