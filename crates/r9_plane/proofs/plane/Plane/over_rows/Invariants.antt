use Rattle.std.proofs.Common.{◌≡◌}
use Rattle.std.specs.Prelude.{if◌then◌else◌}
use Rattle.r9_geom.specs.declared.Point.{Point}
use Rattle.r9_geom.specs.Geometry.{carried, holds}
use Rattle.r9_geom.proofs.GeometryLemmas.{band}
use Rattle.r9_kern.specs.Over.{over_of}
use Rattle.r9_plane.specs.Pixels.{chan_of, pixel_at, rect_of}
use Rattle.r9_plane.specs.Marks.{marks_of}
use Rattle.r9_plane.proofs.plane.Plane.over_rows.Given as goal

abbrev pub invariant-loop-row : goal.invariant-loop-row
invariant-loop-row l = record {
  rect : rect_of l.self ≡ rect_of l.fn.self;
  chan : chan_of l.self ≡ chan_of l.fn.self;
  marks : marks_of l.self ≡ marks_of l.fn.self;
  pixels : (q : Point) → pixel_at l.self q ≡ (if holds (band l.r l.row) q then over_of l.over (pixel_at l.other (carried q l.r.min l.from)) (pixel_at l.fn.self q) else pixel_at l.fn.self q);
}
