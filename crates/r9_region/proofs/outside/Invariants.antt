use Rattle.std.proofs.Common.{◌≡◌, take, false, All}
use Rattle.std.specs.Prelude.{if◌then◌else◌}
use Rattle.r9_geom.specs.declared.Point.{Point}
use Rattle.r9_geom.specs.Geometry.{holds, is_empty}
use Rattle.r9_region.specs.Region.{how_many_hold}
use Rattle.r9_region.proofs.outside.Given as goal

abbrev pub invariant-loop-part : goal.invariant-loop-part
invariant-loop-part l =
    ((p : Point) → how_many_hold l.left.items p ≡ (if holds l.r p then 0 else how_many_hold (take l.part-index l.parts) p))
    × All (λ part. is_empty part ≡ false) l.left.items
