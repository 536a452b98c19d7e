-- What marks tell of the time since a moment, when a plane is written.
use Rattle.std.proofs.Common.{◌≡◌, ◌∙◌, ℕ, ◌+◌, ◌*◌, ◌/◌, ◌^◌, ◌<◌, ◌≤◌, Bool, true, false, ap, sym, subst, arith}
use Rattle.std.specs.Prelude.{◌||◌, ◌<ℤ◌, IsTrue}
use Rattle.std.proofs.lemmas.Bool.{and_from, both_ways, false_from_ne_true, lt-ltb, or_parts, or_right}
use Rattle.std.proofs.lemmas.Int.{ints}
use Rattle.std.proofs.lemmas.List.Sums.{count_by-le-length}
use Rattle.r9_geom.specs.declared.Point.{Point}
use Rattle.r9_geom.specs.declared.Rect.{Rect}
use Rattle.r9_geom.specs.Geometry.{at_min, carried, distance, height, holds, point_at, width}
use Rattle.r9_geom.proofs.GeometryLemmas.{bounds_of, corner, distance_is, same_point}
use Rattle.r9_marks.specs.declared.marks.Marks.{Marks}
use Rattle.r9_marks.specs.marks.Cells.{cells_over, touches}
use Rattle.r9_marks.specs.marks.Marks.{marked}
use Rattle.r9_plane.specs.declared.plane.Plane.{Plane}
use Rattle.r9_plane.specs.Marks.{mark_count, marked_at, marks_of, touched}
use Rattle.r9_plane.specs.Pixels.{pixel_at, rect_of}
use Rattle.r9_plane.proofs.Shifts.{height-at_min, width-at_min}
use Rattle.r9_locate.specs.watched.Moments.{pixel_in, IsSince, Moment}

-- places side by side touch the cell of each of them
touches_own : (first len n : ℕ) → first ≤ n → n < first + len → touches first len (n / 32) ≡ true
touches_own first len n low high =
    and_from _ _
    (and_from _ _ (lt-ltb 0 len (omega (arith, low, high))) (lt-ltb first (32 * (n / 32) + 32) (omega (arith, low))))
    (lt-ltb (32 * (n / 32)) (first + len) (omega (arith, high)))

-- a part of a rectangle touches the cell of each of its points
touched_own : (r part : Rect) (column row : ℕ) → ((p : Point) → IsTrue (holds part p) → IsTrue (holds r p)) → holds part (point_at r column row) ≡ true
    → touched r part (column / 32) (row / 32) ≡ true
touched_own r part column row inside h =
    let b = bounds_of part (point_at r column row) h in
    let across : part.min.x <ℤ part.max.x = omega (arith, ints, b.left, b.right) in
    let down : part.min.y <ℤ part.max.y = omega (arith, ints, b.top, b.bottom) in
    let first = bounds_of r part.min (inside part.min (corner part across down)) in
    let left = distance_is r.min.x part.min.x first.left in
    let top = distance_is r.min.y part.min.y first.top in
    let wide = distance_is part.min.x part.max.x (omega (arith, ints, across)) in
    let tall = distance_is part.min.y part.max.y (omega (arith, ints, down)) in
    and_from _ _
    (touches_own (distance r.min.x part.min.x) (width part) column (omega (arith, ints, left, b.left)) (omega (arith, ints, left, wide, b.right)))
    (touches_own (distance r.min.y part.min.y) (height part) row (omega (arith, ints, top, b.top)) (omega (arith, ints, top, tall, b.bottom)))

-- a plane of which a part was written, and the cells of that marked
pub since_written : (moment : Moment) (old new : Plane) (part : Rect) → ((p : Point) → IsTrue (holds part p) → IsTrue (holds (rect_of old) p)) → rect_of new ≡ rect_of old
    → ((q : Point) → holds part q ≡ false → pixel_at new q ≡ pixel_at old q)
    → ((column row : ℕ) → marked_at new column row ≡ (touched (rect_of old) part column row || marked_at old column row))
    → IsSince moment (rect_of old) (pixel_in old) (marked_at old) → IsSince moment (rect_of new) (pixel_in new) (marked_at new)
since_written moment old new part inside rect others marks since = record {
  unmarked = λ column row c r none.
      let parts = or_parts (touched (rect_of old) part (column / 32) (row / 32)) (marked_at old (column / 32) (row / 32)) (sym (marks (column / 32) (row / 32)) ∙ none) in
      let beside = false_from_ne_true (holds part (point_at (rect_of old) column row)) (λ h. both_ways _ parts.0 (touched_own (rect_of old) part column row inside h)) in
      ap (λ (s : Rect). pixel_at new (point_at s column row)) rect
      ∙ others (point_at (rect_of old) column row) beside
      ∙ since.unmarked column row (subst (λ (s : Rect). column < width s) rect c) (subst (λ (s : Rect). row < height s) rect r) parts.1;
  kept = λ column row c r h.
      marks column row
      ∙ or_right (touched (rect_of old) part column row) (marked_at old column row)
      (since.kept column row (subst (λ (s : Rect). column < cells_over (width s)) rect c) (subst (λ (s : Rect). row < cells_over (height s)) rect r) h);
}

-- a plane of which each cell is marked
pub since_whole : (moment : Moment) (plane : Plane) → ((column row : ℕ) → column < cells_over (width (rect_of plane)) → row < cells_over (height (rect_of plane)) → marked_at plane column row ≡ true)
    → IsSince moment (rect_of plane) (pixel_in plane) (marked_at plane)
since_whole moment plane all = record {
  unmarked = λ column row c r none. absurd (both_ways _ none (all (column / 32) (row / 32) (omega (arith, c)) (omega (arith, r))));
  kept = λ column row c r h. all column row c r;
}

same_place : (r : Rect) (min : Point) (column row : ℕ) → carried (point_at (at_min r min) column row) min r.min ≡ point_at r column row
same_place r min column row = same_point _ _ (omega (arith, ints)) (omega (arith, ints))

-- a plane whose rectangle got another min
pub since_shifted : (moment : Moment) (old new : Plane) (min : Point) → rect_of new ≡ at_min (rect_of old) min
    → ((q : Point) → pixel_at new q ≡ pixel_at old (carried q min (rect_of old).min)) → marks_of new ≡ marks_of old
    → IsSince moment (rect_of old) (pixel_in old) (marked_at old) → IsSince moment (rect_of new) (pixel_in new) (marked_at new)
since_shifted moment old new min rect pixels marks since =
    let r = rect_of old in
    let wide : width (rect_of new) ≡ width r = ap width rect ∙ width-at_min r min in
    let tall : height (rect_of new) ≡ height r = ap height rect ∙ height-at_min r min in
    let same : (column row : ℕ) → marked_at new column row ≡ marked_at old column row = λ column row. ap (λ (m : Marks). marked m column row) marks in
    record {
      unmarked = λ column row c h none.
          pixels (point_at (rect_of new) column row)
          ∙ ap (λ (s : Rect). pixel_at old (carried (point_at s column row) min r.min)) rect
          ∙ ap (pixel_at old) (same_place r min column row)
          ∙ since.unmarked column row (subst (λ (n : ℕ). column < n) wide c) (subst (λ (n : ℕ). row < n) tall h) (sym (same (column / 32) (row / 32)) ∙ none);
      kept = λ column row c h was.
          same column row
          ∙ since.kept column row (subst (λ (n : ℕ). column < cells_over n) wide c) (subst (λ (n : ℕ). row < cells_over n) tall h) was;
    }

-- fewer cells are marked than a list has room for
pub marks_most : (plane : Plane) → mark_count plane < 2 ^ 64
marks_most plane = let bits = (marks_of plane).bits in omega (arith, count_by-le-length (λ (mark : Bool). mark) bits.items, bits.ok.0, bits.ok.1, bits.small)
