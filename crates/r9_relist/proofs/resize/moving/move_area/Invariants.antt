use Rattle.std.proofs.Common.{◌≡◌, ◌+◌, ◌*◌, ◌≤◌}
use Rattle.r9_geom.specs.Geometry.{holds, width}
use Rattle.r9_geom.proofs.GeometryLemmas.{band}
use Rattle.r9_plane.specs.Pixels.{pixel_at, rect_of}
use Rattle.r9_locate.specs.locate.Table.{shape}
use Rattle.r9_pixels.specs.Kept.{form_at, has_place, kept_at, moment, writes}
use Rattle.r9_relist.specs.resize.Moves.{IsMovedFor}
use Rattle.r9_relist.proofs.resize.moving.move_area.Given as goal

abbrev pub invariant-loop-row : goal.invariant-loop-row
invariant-loop-row g l = record {
  moved : IsMovedFor (shape l.lists) l.i (rect_of l.had) (pixel_at l.had) (kept_at l.fn.pixels) (kept_at l.pixels) (holds (band l.area l.row));
  has : has_place l.pixels ≡ has_place l.fn.pixels;
  forms : form_at l.pixels ≡ form_at l.fn.pixels;
  steps : l.steps ≤ l.fn.steps + l.row * width l.area;
  moment : moment l.pixels ≡ moment l.fn.pixels;
  writes : writes l.pixels + l.fn.steps ≡ writes l.fn.pixels + l.steps;
}
