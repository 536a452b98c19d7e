use Rattle.std.proofs.Common.{◌≡◌, true, vec_len}
use Rattle.r9_geom.specs.declared.Point.{Point as Spot}
use Rattle.r9_geom.specs.Geometry.{holds, width}
use Rattle.r9_geom.proofs.GeometryLemmas.{band}
use Rattle.r9_plane.specs.Pixels.{chan_of, pixel_at, rect_of}
use Rattle.model_forest.specs.View.{view}
use Rattle.model_forest.specs.World.{image_at}
use Rattle.r9_forest.specs.Images.{world}
use Rattle.r9_forest.proofs.images.Images.shown.Given as goal

abbrev pub invariant-loop-row : goal.invariant-loop-row
invariant-loop-row g l = record {
  rect : rect_of l.plane ≡ l.r;
  chan : chan_of l.plane ≡ (image_at (world l.self) l.i).chan;
  long : vec_len l.raws ≡ width l.r;
  pixels : (q : Spot) → holds (band l.r l.row) q ≡ true → pixel_at l.plane q ≡ view (world l.self) l.i q;
}
