use Rattle.std.proofs.Common.{◌≡◌, ◌==◌, ◌+◌, filter, length}
use Rattle.r9_ids.specs.ids.Own.{images_from}
use Rattle.r9_ids.proofs.ids.image_ids.ImageIds.count_of.Given as goal

-- those that are left are not counted
abbrev pub invariant-counting : goal.invariant-counting
invariant-counting l = l.count + length (images_from l.client l.from l.self.ids) ≡ length (filter (λ e. e.client == l.client) l.self.ids)

abbrev pub decreases-counting : goal.decreases-counting
decreases-counting l = length (images_from l.client l.from l.self.ids)
