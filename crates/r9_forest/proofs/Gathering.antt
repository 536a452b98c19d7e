-- Pixels of a rectangle, gathered row by row.
use Rattle.std.proofs.Common.{◌≡◌, ◌∙◌, ℕ, ◌+◌, ◌*◌, ◌<◌, Bool, true, false, List, get_or, refl, sym, ap, arith}
use Rattle.std.specs.Prelude.{pos, ◌+ℤ◌, ◌||◌}
use Rattle.std.proofs.lemmas.Int.{ints}
use Rattle.r9_geom.specs.declared.Point.{Point}
use Rattle.r9_geom.specs.declared.Rect.{Rect}
use Rattle.r9_geom.specs.Geometry.{distance, holds, point_at, strip, width, IsOrdered}
use Rattle.r9_geom.proofs.GeometryLemmas.{band, band_more, bounds_of, cell_of, distance_is, row_distance, same_point}
use Rattle.r9_plane.specs.Pixels.{along, number_of}
use Rattle.r9_put.proofs.put.Grids.{place_before, strip_column}

-- one more row was gathered
pub row_gathered : (r : Rect) (at p : Point) (row w : ℕ) (old new : List ℕ) (value : Point → ℕ) → IsOrdered r → at ≡ point_at r 0 row → w ≡ width r → ((k : ℕ) → k < w → get_or new (row * w + k) 0 ≡ value (along at k)) → ((j : ℕ) → j < row * w → get_or new j 0 ≡ get_or old j 0) → (holds (band r row) p ≡ true → get_or old (number_of r p) 0 ≡ value p) → holds (band r (row + 1)) p ≡ true → get_or new (number_of r p) 0 ≡ value p
row_gathered r at p row w old new value ordered is wide now before earlier inside =
    let more = ap (λ m. holds (strip at m) p || holds (band r row) p) wide ∙ sym (band_more r at p row ordered left top) ∙ inside in
    by_cases (holds (strip at w) p) refl more
  where
    left : at.x ≡ r.min.x
    left = let x = ap (λ (q : Point). q.x) is in omega (arith, ints, x)

    top : at.y ≡ r.min.y +ℤ pos row
    top = ap (λ (q : Point). q.y) is

    in_band : holds (band r row) p ≡ true → number_of r p < row * w
    in_band h =
        let b = bounds_of (band r row) p h in
        let cell = cell_of (band r row) p h in
        let line = distance_is r.min.y p.y b.top in
        let early : distance r.min.y p.y < row = omega (arith, ints, line, b.bottom) in
        let column : distance r.min.x p.x < w = omega (arith, cell.column, wide) in
        let place = place_before row (distance r.min.y p.y) (distance r.min.x p.x) w early column in
        let same = ap (λ n. distance r.min.y p.y * n + distance r.min.x p.x) wide in
        omega (arith, place, same)

    by_cases : (b : Bool) → holds (strip at w) p ≡ b → (b || holds (band r row) p) ≡ true → get_or new (number_of r p) 0 ≡ value p
    by_cases true e some =
        let b = bounds_of (strip at w) p e in
        let k = distance at.x p.x in
        let column = distance_is at.x p.x b.left in
        let line : distance r.min.y p.y ≡ row = row_distance r at p row top (ap (λ m. holds (strip at m) p) (sym wide) ∙ e) in
        (λ j. get_or new (line j * sym wide j + distance (sym left j) p.x) 0)
        ∙ now k (strip_column at p w e)
        ∙ ap value (same_point (along at k) p column (omega (arith, ints, b.top, b.bottom)))
    by_cases false e some = before (number_of r p) (in_band some) ∙ earlier some
