use Rattle.std.proofs.Common.{◌≡◌, ◌++◌, map, take, drop}
use Rattle.r9_geom.specs.Geometry.{meet}
use Rattle.r9_region.proofs.narrow.Given as goal

abbrev pub invariant-loop-part : goal.invariant-loop-part
invariant-loop-part l =
    l.part-items ≡ map (λ part. meet part l.r) (take l.part-index l.initial.part-items) ++ drop l.part-index l.initial.part-items
