use Rattle.std.proofs.Common.{refl}
use Rattle.model_rio.specs.window.Heard.{Raw}
use Rattle.r9_isol.proofs.isol.Near.{done_near}
use Rattle.r9_isol.proofs.isol.desktop.Desktop.set_raw.Goals as goal

pub invariant_of-window : goal.invariant_of-window
invariant_of-window c =
    record { near = done_near c.set_raw.result c.in-Some.window.pane c.set_raw.new.self (Raw c.args.raw) refl c.set_raw.ensures.ok c.set_raw.ensures.err c.in-Some.window.near }
