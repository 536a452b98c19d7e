use Rattle.std.proofs.Common.{◌≡◌, ◌≤◌}
use Rattle.std.specs.Int.Bits.{bit_and}
use Rattle.r9_geom.specs.declared.Point.{Point}
use Rattle.r9_geom.specs.Geometry.{carried, height, holds}
use Rattle.r9_geom.proofs.GeometryLemmas.{band}
use Rattle.r9_plane.specs.Pixels.{chan_of, pixel_at, rect_of}
use Rattle.r9_plane.specs.Marks.{marks_of}
use Rattle.r9_plane.proofs.Moving.{below_of}
use Rattle.r9_plane.proofs.plane.Plane.move_down.Given as goal

abbrev pub invariant-loop-row : goal.invariant-loop-row
invariant-loop-row l = record {
  within : l.row ≤ height l.r;
  rect : rect_of l.self ≡ rect_of l.fn.self;
  chan : chan_of l.self ≡ chan_of l.fn.self;
  marks : marks_of l.self ≡ marks_of l.fn.self;
  pixels : (q : Point) → pixel_at l.self q ≡ below_of (holds (band l.r l.row) q) (holds l.r q) (bit_and (pixel_at l.fn.self (carried q l.r.min l.from)) l.bits) (pixel_at l.fn.self q);
}

abbrev pub decreases-loop-row : goal.decreases-loop-row
decreases-loop-row l = l.row
