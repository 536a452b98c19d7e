use Rattle.std.proofs.Common.{◌≡◌, true, get_or}
use Rattle.r9_geom.specs.declared.Point.{Point}
use Rattle.r9_geom.specs.Geometry.{holds}
use Rattle.r9_geom.proofs.GeometryLemmas.{band}
use Rattle.r9_plane.specs.Pixels.{number_of}
use Rattle.model_forest.specs.View.{at}
use Rattle.r9_forest.specs.Images.{world}
use Rattle.r9_forest.proofs.images.Images.read_rows.Given as goal

abbrev pub invariant-loop-row : goal.invariant-loop-row
invariant-loop-row l =
    (p : Point) → holds (band l.r l.row) p ≡ true → get_or l.raws (number_of l.r p) 0 ≡ at (world l.self) l.i p
