use Rattle.std.proofs.Common.{◌≡◌, true, get_or}
use Rattle.r9_geom.specs.declared.Point.{Point}
use Rattle.r9_geom.specs.Geometry.{holds}
use Rattle.r9_geom.proofs.GeometryLemmas.{band}
use Rattle.r9_plane.specs.Pixels.{number_of}
use Rattle.r9_put.specs.fills.Fills.{fill_at}
use Rattle.r9_forest.specs.Images.{world}
use Rattle.r9_forest.proofs.images.Images.gather_rows.Given as goal

abbrev pub invariant-loop-row : goal.invariant-loop-row
invariant-loop-row l = record {
  lists : l.self.lists ≡ l.fn.self.lists;
  pixels : l.self.pixels ≡ l.fn.self.pixels;
  spare : l.self.spare ≡ l.fn.self.spare;
  len : l.self.room.len ≡ l.fn.self.room.len;
  gathered : (p : Point) → holds (band l.area l.row) p ≡ true → get_or l.self.room.items (number_of l.area p) 0 ≡ fill_at (world l.fn.self) l.chan l.fill p;
}
