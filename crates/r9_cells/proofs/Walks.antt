-- A walk over the cells of a window, from one to the next.
use Rattle.std.proofs.Common.{◌≡◌, ◌∙◌, ℕ, ℤ, ◌+◌, ◌*◌, ◌/◌, ◌%◌, ◌<◌, ◌≤◌, ◌≢◌, ◌+ℤ◌, ◌-ℤ◌, ◌≤ℤ◌, ◌<ℤ◌, pos, true, inl, inr, refl, sym, ap, subst, arith, ⊎_elim}
use Rattle.std.specs.Int.{int_max, int_min}
use Rattle.std.proofs.lemmas.Bool.{cases_eq, false_from_ne_true, false≢true}
use Rattle.std.proofs.lemmas.Int.{by_lt_z, clamps, ints}
use Rattle.std.proofs.lemmas.Nat.{same_from_place}
use Rattle.std.proofs.Math.Nat.{div-add-mod, mod-lt, mul_comm}
use Rattle.r9_geom.specs.declared.Point.{Point}
use Rattle.r9_geom.specs.declared.Rect.{Rect}
use Rattle.r9_geom.specs.Geometry.{height, holds, is_empty, is_inside, width, IsOrdered}
use Rattle.r9_geom.proofs.GeometryLemmas.{distance_is, empty_holds, holds_from, inside_tells, same_rect}
use Rattle.model_kept.specs.Cells.{cell_count, cell_part, cells_across}
use Rattle.r9_cells.specs.Fitting.{standing_part, IsCellIn}
use Rattle.r9_cells.specs.Walking.{cell_out, IsAtCell}
use Rattle.r9_cells.specs.declared.hiding.Walk.{Walk}
use Rattle.r9_cells.proofs.Covering.{cell_begins}
use Rattle.r9_cells.proofs.Parts.{wider}

-- there is a column where there is a cell
pub some_across : (r : Rect) (k : ℕ) → k < cell_count r → 0 < cells_across r
some_across r k below =
    ⊎_elim
    (λ (none : cells_across r ≡ 0). absurd (nothing (subst (λ (n : ℕ). k < n * down) none below)))
    (λ (more : cells_across r ≢ 0). omega arith)
    (cases_eq (cells_across r) 0)
  where
    down : ℕ
    down = (height r + 31) / 32

    nothing : k < 0 * down → ⊥
    nothing less = omega arith

-- the place of the next number among rows of so many
pub next_in : (a k : ℕ) → 0 < a → k % a + 1 < a → ((k + 1) % a ≡ k % a + 1) × ((k + 1) / a ≡ k / a)
next_in a k some within =
    let here = div-add-mod k a in
    let there = div-add-mod (k + 1) a in
    let same : (k + 1) / a * a + (k + 1) % a ≡ k / a * a + (k % a + 1) = omega (arith, here, there, mul_comm ((k + 1) / a) a, mul_comm (k / a) a) in
    let parts = same_from_place ((k + 1) / a) ((k + 1) % a) (k / a) (k % a + 1) a (mod-lt (k + 1) some) within same in
    (parts.1, parts.0)

pub next_row : (a k : ℕ) → 0 < a → a ≤ k % a + 1 → ((k + 1) % a ≡ 0) × ((k + 1) / a ≡ k / a + 1)
next_row a k some past =
    let here = div-add-mod k a in
    let there = div-add-mod (k + 1) a in
    let column = mod-lt k some in
    let more : (k / a + 1) * a ≡ k / a * a + a = omega (arith, mul_comm (k / a + 1) a, mul_comm (k / a) a) in
    let same : (k + 1) / a * a + (k + 1) % a ≡ (k / a + 1) * a + 0 = omega (arith, here, there, column, past, more, mul_comm ((k + 1) / a) a, mul_comm (k / a) a) in
    let parts = same_from_place ((k + 1) / a) ((k + 1) % a) (k / a + 1) 0 a (mod-lt (k + 1) some) some same in
    (parts.1, parts.0)

-- where a cell stands
pub stands_at : (walk : Walk) (r : Rect) (to : Point) (k : ℕ) → IsAtCell walk r to k → cell_out walk ≡ standing_part r to (cell_part r k)
stands_at walk r to k at =
    same_rect (cell_out walk) (standing_part r to (cell_part r k))
    (ap (λ (p : Rect). int_max p.min.x walk.at.x) at.place ∙ left r.min.x to.x walk.at.x (32 * (k % cells_across r)) at.left)
    (ap (λ (p : Rect). int_max p.min.y walk.at.y) at.place ∙ left r.min.y to.y walk.at.y (32 * (k / cells_across r)) at.top)
    (ap (λ (p : Rect). int_min p.max.x (walk.at.x +ℤ pos 32)) at.place ∙ right r.min.x r.max.x to.x walk.at.x (32 * (k % cells_across r)) at.left)
    (ap (λ (p : Rect). int_min p.max.y (walk.at.y +ℤ pos 32)) at.place ∙ right r.min.y r.max.y to.y walk.at.y (32 * (k / cells_across r)) at.top)
  where
    left : (low at x : ℤ) (n : ℕ) → x ≡ at +ℤ pos n → int_max (low -ℤ low +ℤ at) x ≡ int_max low (low +ℤ pos n) -ℤ low +ℤ at
    left low at x n is = grind (arith, ints)

    right : (low high at x : ℤ) (n : ℕ) → x ≡ at +ℤ pos n → int_min (high -ℤ low +ℤ at) (x +ℤ pos 32) ≡ int_min high (low +ℤ pos n +ℤ pos 32) -ℤ low +ℤ at
    right low high at x n is = omega (arith, ints, clamps, is)

-- each cell of a window is a part of its place that reaches to the end of the first cells, or of the place
pub cell_in : (r : Rect) (to : Point) (k : ℕ) → IsOrdered r → k < cell_count r → IsCellIn (standing_part r to r) (standing_part r to (cell_part r k))
cell_in r to k ordered below =
    let begins = cell_begins r k below in
    let x = 32 * (k % cells_across r) in
    let y = 32 * (k / cells_across r) in
    let wide = distance_is r.min.x r.max.x ordered.across in
    let high = distance_is r.min.y r.max.y ordered.down in
    let out = standing_part r to r in
    let part = standing_part r to (cell_part r k) in
    let square : Rect = record { min = record { x = r.min.x +ℤ pos x; y = r.min.y +ℤ pos y }; max = record { x = r.min.x +ℤ pos x +ℤ pos 32; y = r.min.y +ℤ pos y +ℤ pos 32 } } in
    let corner : Point = record { x = to.x +ℤ pos x; y = to.y +ℤ pos y } in
    let here : holds part corner ≡ true = holds_from part corner (record {
      left = omega (arith, ints, clamps);
      right = omega (arith, ints, clamps, begins.0, wide);
      top = omega (arith, ints, clamps);
      bottom = omega (arith, ints, clamps, begins.1, high);
    }) in
    record {
      inside = (inside_tells part out (is_inside part out) refl).1 (λ p h. wider r square r.min to p h);
      some = false_from_ne_true (is_empty part) (λ e. false≢true (sym (empty_holds part corner e) ∙ here));
      across = by_lt_z r.max.x (r.min.x +ℤ pos x +ℤ pos 32) (λ less. inr (omega (arith, ints, clamps, less))) (λ more. inl (omega (arith, ints, clamps, more)));
      down = by_lt_z r.max.y (r.min.y +ℤ pos y +ℤ pos 32) (λ less. inr (omega (arith, ints, clamps, less))) (λ more. inl (omega (arith, ints, clamps, more)));
    }

-- where the window stands, by the corner of its first cell
placed : (walk : Walk) (r : Rect) (to : Point) (k : ℕ) → IsAtCell walk r to k → IsOrdered r → (walk.place.min.x ≡ to.x) × (walk.place.max.x ≡ to.x +ℤ pos (width r))
placed walk r to k is ordered =
    let wide = distance_is r.min.x r.max.x ordered.across in
    let low : walk.place.min.x ≡ r.min.x -ℤ r.min.x +ℤ to.x = ap (λ (p : Rect). p.min.x) is.place in
    let high : walk.place.max.x ≡ r.max.x -ℤ r.min.x +ℤ to.x = ap (λ (p : Rect). p.max.x) is.place in
    (omega (arith, ints, low), omega (arith, ints, high, wide))

-- on to the right, or to the first cell of the next row
pub walk_on : (walk : Walk) (at : Point) (r : Rect) (to : Point) (k : ℕ) → IsOrdered r → k < cell_count r → IsAtCell walk r to k → at.x ≡ walk.at.x +ℤ pos 32 → at.y ≡ walk.at.y → at.x <ℤ walk.place.max.x → IsAtCell (record { place = walk.place; at = at }) r to (k + 1)
walk_on walk at r to k ordered below is x y less =
    let a = cells_across r in
    let end = (placed walk r to k is ordered).1 in
    let within : k % a + 1 < a = omega (arith, ints, is.left, x, less, end) in
    let next = next_in a k (some_across r k below) within in
    record {
      place = is.place;
      left = omega (arith, ints, is.left, x, next.0);
      top = omega (arith, ints, is.top, y, next.1);
    }

pub walk_down : (walk : Walk) (at : Point) (r : Rect) (to : Point) (k : ℕ) → IsOrdered r → k < cell_count r → IsAtCell walk r to k → at.x ≡ walk.place.min.x → at.y ≡ walk.at.y +ℤ pos 32 → walk.place.max.x ≤ℤ (walk.at.x +ℤ pos 32) → IsAtCell (record { place = walk.place; at = at }) r to (k + 1)
walk_down walk at r to k ordered below is x y more =
    let a = cells_across r in
    let ends = placed walk r to k is ordered in
    let past : a ≤ k % a + 1 = omega (arith, ints, is.left, more, ends.1) in
    let next = next_row a k (some_across r k below) past in
    record {
      place = is.place;
      left = omega (arith, ints, x, ends.0, next.0);
      top = omega (arith, ints, is.top, y, next.1);
    }
