use Rattle.std.proofs.Common.{◌∙◌, arith}
use Rattle.model_world.specs.Desktop.{panes_told}
use Rattle.r9_desktop.proofs.Loops.{fold_next}
use Rattle.r9_desktop.proofs.telling.tell_panes.Goals as goal

pub loop-told-preserved : goal.loop-told-preserved
loop-told-preserved c =
    fold_next panes_told c.loop-told.panes.entries _ c.told-item.result c.args.notes.now c.loop-told.told-index _ (omega arith) c.told-item.is c.in_ok-tell_pane.ensures
    ∙ c.loop-told.invariant
