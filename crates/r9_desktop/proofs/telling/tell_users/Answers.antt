use Rattle.std.proofs.Common.{◌∙◌, arith}
use Rattle.model_world.specs.Desktop.{users_told}
use Rattle.r9_desktop.proofs.Loops.{fold_next}
use Rattle.r9_desktop.proofs.telling.tell_users.Goals as goal

pub loop-told-preserved : goal.loop-told-preserved
loop-told-preserved c =
    fold_next users_told c.loop-told.users.entries _ c.told-item.result c.args.notes.now c.loop-told.told-index _ (omega arith) c.told-item.is c.tell_users_of.ensures
    ∙ c.loop-told.invariant
