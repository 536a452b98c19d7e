use Rattle.std.proofs.Common.{◌≡◌, ◌+ℤ◌, pos}
use Rattle.std.specs.Prelude.{if◌then◌else◌}
use Rattle.r9_geom.specs.declared.Point.{Point}
use Rattle.r9_geom.specs.Geometry.{holds}
use Rattle.r9_geom.proofs.GeometryLemmas.{band}
use Rattle.model_pixel.specs.Channels.{depth}
use Rattle.model_pixel.specs.Rows.{row_pixel}
use Rattle.r9_plane.specs.Pixels.{chan_of, pixel_at, rect_of}
use Rattle.r9_plane.specs.Marks.{marks_of}
use Rattle.r9_plane.proofs.plane.Plane.load.Given as goal

abbrev pub invariant-loop-row : goal.invariant-loop-row
invariant-loop-row g l = record {
  x : l.at.x ≡ l.fn.r.min.x;
  y : l.at.y ≡ l.fn.r.min.y +ℤ pos l.row;
  rect : rect_of l.self ≡ rect_of l.fn.self;
  chan : chan_of l.self ≡ chan_of l.fn.self;
  marks : marks_of l.self ≡ marks_of l.fn.self;
  pixels : (q : Point) → pixel_at l.self q ≡ (if holds (band l.fn.r l.row) q then row_pixel l.fn.r (depth (chan_of l.fn.self)) l.rows q else pixel_at l.fn.self q);
}
