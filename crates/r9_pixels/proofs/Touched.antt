-- A rectangle that is written whole, so that each cell of it is marked.
use Rattle.std.proofs.Common.{◌≡◌, ◌∙◌, ℕ, ℤ, ◌<◌, ◌≤◌, ◌/◌, Bool, true, ap, arith}
use Rattle.std.proofs.lemmas.Bool.{and_from}
use Rattle.std.proofs.lemmas.Int.{ints}
use Rattle.r9_geom.specs.declared.Rect.{Rect}
use Rattle.r9_geom.specs.Geometry.{distance, height, width}
use Rattle.r9_geom.proofs.GeometryLemmas.{distance_is}
use Rattle.r9_marks.specs.marks.Cells.{cells_over, touches}
use Rattle.r9_marks.proofs.marks.MarkLemmas.{cell_touched}
use Rattle.r9_plane.specs.Marks.{touched}

no_distance : (a : ℤ) → distance a a ≡ 0
no_distance a = omega (arith, ints, distance_is a a (omega (arith, ints)))

all_touched : (a : ℤ) (len cell : ℕ) → cell < cells_over len → touches (distance a a) len cell ≡ true
all_touched a len cell below =
    ap (λ (first : ℕ). touches first len cell) (no_distance a) ∙ cell_touched 0 len cell (omega (arith, below)) (omega arith) (omega (arith, below))

pub whole_touched : (r : Rect) (column row : ℕ) → column < cells_over (width r) → row < cells_over (height r) → touched r r column row ≡ true
whole_touched r column row across down = and_from _ _ (all_touched r.min.x (width r) column across) (all_touched r.min.y (height r) row down)
