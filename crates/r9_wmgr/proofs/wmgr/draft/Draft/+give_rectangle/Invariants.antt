use Rattle.std.proofs.Common.{◌≡◌, ◌-◌, drop, true}
use Rattle.model_rio.specs.rio.Moving.{each, carried, moved}
use Rattle.r9_wmgr.proofs.wmgr.draft.Draft.+give_rectangle.Given as goal

abbrev pub decreases-give_rectangle : goal.decreases-give_rectangle
decreases-give_rectangle l = l.levels

abbrev pub invariant-loop-v : goal.invariant-loop-v
invariant-loop-v l =
    each (carried (moved (l.levels - 1) true) l.by) (drop l.v-index l.v-items) l.self
    ≡ each (carried (moved (l.levels - 1) true) l.by) l.v-items l.initial.self
