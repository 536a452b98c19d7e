use Rattle.std.proofs.Common.{◌≡◌, ◌==◌, ◌+◌, filter, length}
use Rattle.r9_ids.specs.ids.Own.{screens_from}
use Rattle.r9_ids.proofs.ids.screen_ids.ScreenIds.count_of.Given as goal

-- those that are left are not counted
abbrev pub invariant-counting : goal.invariant-counting
invariant-counting l = l.count + length (screens_from l.client l.from l.self.ids) ≡ length (filter (λ e. e.client == l.client) l.self.ids)

abbrev pub decreases-counting : goal.decreases-counting
decreases-counting l = length (screens_from l.client l.from l.self.ids)
