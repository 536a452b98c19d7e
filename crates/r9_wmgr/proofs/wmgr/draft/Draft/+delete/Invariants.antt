use Rattle.std.proofs.Common.{◌≡◌, ◌-◌, drop}
use Rattle.std.specs.List.{fold}
use Rattle.model_rio.specs.rio.Moving.{deleted}
use Rattle.r9_wmgr.proofs.wmgr.draft.Draft.+delete.Given as goal

abbrev pub decreases-delete : goal.decreases-delete
decreases-delete l = l.levels

abbrev pub invariant-loop-v : goal.invariant-loop-v
invariant-loop-v l =
    fold (λ step v. deleted (l.levels - 1) v step) l.self (drop l.v-index l.v-items)
    ≡ fold (λ step v. deleted (l.levels - 1) v step) l.initial.self l.v-items
