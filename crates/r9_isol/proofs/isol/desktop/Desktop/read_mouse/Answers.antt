use Rattle.std.proofs.Common.{refl}
use Rattle.model_text.proofs.map.Keys.{not_key}
use Rattle.model_rio.specs.window.Heard.{MouseRead}
use Rattle.r9_isol.specs.isol.World.{desktop_of, parts_of}
use Rattle.r9_isol.proofs.isol.Near.{given_near}
use Rattle.r9_isol.proofs.isol.Panes.{no_mouse, none_there, other_there}
use Rattle.r9_isol.proofs.isol.desktop.Desktop.read_mouse.Goals.{in_default-via-in-Some+else-window-serial, in_default-via-in_default}
use Rattle.r9_isol.proofs.isol.desktop.Desktop.read_mouse.Goals as goal

pub invariant_of-window : goal.invariant_of-window
invariant_of-window c =
    record { near = given_near c.read_mouse.result c.in-Some.window.pane c.read_mouse.new.self MouseRead refl c.read_mouse.ensures.takes c.read_mouse.ensures.leaves c.read_mouse.ensures.err c.in-Some.window.near }

pub returns-in_default-clause-gives : goal.returns-in_default-clause-gives
unfolding desktop_of
returns-in_default-clause-gives c = no_mouse (parts_of c.args.self.now) c.args.serial (elim c.in_default.branch [
  | in_default-via-in-Some+else-window-serial w ↦ other_there c.args.self.now c.args.serial w.in-Some.window w.in-Some.is (not_key w.in-Some.window.serial c.args.serial w.if-window-serial.false)
  | in_default-via-in_default w ↦ none_there c.args.self.now c.args.serial w.in_default.is
])
