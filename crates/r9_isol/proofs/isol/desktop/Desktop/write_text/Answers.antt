use Rattle.std.proofs.Common.{refl}
use Rattle.model_rio.specs.window.Heard.{Written}
use Rattle.r9_isol.proofs.isol.Near.{done_near}
use Rattle.r9_isol.proofs.isol.desktop.Desktop.write_text.Goals as goal

pub invariant_of-window : goal.invariant_of-window
invariant_of-window c =
    record { near = done_near c.write_text.result c.in-Some.window.pane c.write_text.new.self (Written c.args.bytes.now) refl c.write_text.ensures.ok c.write_text.ensures.err c.in-Some.window.near }
