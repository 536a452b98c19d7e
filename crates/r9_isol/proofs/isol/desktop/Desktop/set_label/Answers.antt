use Rattle.std.proofs.Common.{refl}
use Rattle.model_rio.specs.window.Heard.{Labelled}
use Rattle.r9_isol.proofs.isol.Near.{done_near}
use Rattle.r9_isol.proofs.isol.desktop.Desktop.set_label.Goals as goal

pub invariant_of-window : goal.invariant_of-window
invariant_of-window c =
    record { near = done_near c.set_label.result c.in-Some.window.pane c.set_label.new.self (Labelled c.args.bytes.now) refl c.set_label.ensures.ok c.set_label.ensures.err c.in-Some.window.near }
