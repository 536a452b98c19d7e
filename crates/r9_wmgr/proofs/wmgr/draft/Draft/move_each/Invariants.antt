use Rattle.std.proofs.Common.{◌≡◌, drop, true}
use Rattle.model_rio.specs.rio.Moving.{each}
use Rattle.model_rio.specs.rio.Rio.{moved_by}
use Rattle.r9_wmgr.proofs.wmgr.draft.Draft.move_each.Given as goal

abbrev pub invariant-loop-w : goal.invariant-loop-w
invariant-loop-w l = each (moved_by true l.options) (drop l.w-index l.windows) l.self ≡ each (moved_by true l.options) l.windows l.initial.self
