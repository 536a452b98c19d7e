use Rattle.std.proofs.Common.{◌≡◌, ◌+◌, take, false, All}
use Rattle.r9_geom.specs.declared.Point.{Point}
use Rattle.r9_geom.specs.Geometry.{is_empty}
use Rattle.r9_region.specs.Region.{how_many_hold}
use Rattle.r9_region.proofs.push_solid.Given as goal

abbrev pub invariant-loop-piece : goal.invariant-loop-piece
invariant-loop-piece l =
    ((p : Point) → how_many_hold l.out.items p ≡ how_many_hold l.fn.out.items p + how_many_hold (take l.piece-index l.pieces) p)
    × (All (λ part. is_empty part ≡ false) l.fn.out.items → All (λ part. is_empty part ≡ false) l.out.items)
