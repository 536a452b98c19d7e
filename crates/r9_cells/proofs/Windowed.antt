-- A window at its place in a list, and its cells there.
use Rattle.std.proofs.Common.{◌≡◌, ◌∙◌, ℕ, ◌+◌, ◌*◌, ◌/◌, ◌%◌, ◌^◌, ◌<◌, ◌+ℤ◌, ◌-ℤ◌, pos, Bool, true, false, List, Option, length, take, refl, sym, ap, subst, arith}
use Rattle.std.specs.Prelude.{◌==◌, ◌&&◌, is_some, not}
use Rattle.std.specs.List.{list_any, position_or_len}
use Rattle.std.proofs.lemmas.Bool.{and_left, and_right, false≢true, or_right}
use Rattle.std.proofs.lemmas.Int.{ints}
use Rattle.r9_geom.specs.declared.Point.{Point}
use Rattle.r9_geom.specs.declared.Rect.{Rect}
use Rattle.r9_geom.specs.Geometry.{is_empty, is_inside, meet, IsNear, IsNearBy, IsOrdered, IsRectNear}
use Rattle.r9_geom.proofs.GeometryLemmas.{height_most, width_most}
use Rattle.model_forest.specs.declared.Window.{Window}
use Rattle.model_kept.specs.Cells.{above, cell_count, cell_part, cells_across}
use Rattle.r9_cells.specs.Rows.{cell_at}
use Rattle.r9_cells.specs.Fitting.{hides_at, hides_cell, meets, standing_cell, standing_part, wanted_near, wants, IsCellIn, IsWindowAt}
use Rattle.r9_cells.specs.Walking.{cell_out, IsAtCell}
use Rattle.r9_cells.specs.declared.hiding.Walk.{Walk}
use Rattle.r9_cells.proofs.Counted.{count_none}
use Rattle.r9_cells.proofs.Covering.{above_before, cell_begins, position_some, under}
use Rattle.r9_cells.proofs.Parts.{part_shown}
use Rattle.r9_cells.proofs.Still.{IsGiven, IsTaken}
use Rattle.r9_cells.proofs.Walks.{cell_in, stands_at}

-- the windows above it
pub above_at : (ws : List Window) (at : ℕ) (w : Window) → IsWindowAt ws at w → take at ws ≡ above w.image ws
above_at ws at w is =
    ap (λ n. take n ws) (sym (position_some (position_or_len (λ (v : Window). v.image == w.image) ws) (length ws) at is.first)) ∙ sym (above_before w.image ws)

-- whether a cell of it is hidden, and whether it meets some areas
pub cell_hid : (below : Rect) (ws : List Window) (at : ℕ) (w : Window) (r : Rect) (k : ℕ) → IsWindowAt ws at w → hides_at below (take at ws) (standing_part r w.place.min (cell_part r k)) ≡ hides_cell below ws w.image r k
cell_hid below ws at w r k is = under below ws (take at ws) w.image r w.place.min (cell_part r k) (above_at ws at w is) (ap (λ (p : Rect). p.min) (sym is.place))

pub cell_met : (areas : List Rect) (ws : List Window) (at : ℕ) (w : Window) (r : Rect) (k : ℕ) → IsWindowAt ws at w → meets areas (standing_part r w.place.min (cell_part r k)) ≡ meets areas (standing_cell ws w.image r k)
cell_met areas ws at w r k is = ap (λ (p : Rect). meets areas (standing_part r p.min (cell_part r k))) (sym is.place)

-- what is asked of the cell of a walk is asked of that of the window
pub wants_at : (rows : List (List (Option ℕ))) (below : Rect) (ws : List Window) (areas : List Rect) (at : ℕ) (w : Window) (r : Rect) (k : ℕ) (walk : Walk) → IsWindowAt ws at w → IsAtCell walk r w.place.min k → (meets areas (cell_out walk) && (hides_at below (take at ws) (cell_out walk) && not (is_some (cell_at rows w.image k)))) ≡ (meets areas (standing_cell ws w.image r k) && wants rows below ws w.image r k)
wants_at rows below ws areas at w r k walk is there =
    let some = is_some (cell_at rows w.image k) in
    ap (λ o. meets areas o && (hides_at below (take at ws) o && not some)) (stands_at walk r w.place.min k there)
    ∙ (λ j. cell_met areas ws at w r k is j && (cell_hid below ws at w r k is j && not some))

-- where what meets no area has its tile, what wants one meets one
pub met_wants : (m h s : Bool) → (m ≡ false → h ≡ true → s ≡ true) → (m && (h && not s)) ≡ (h && not s)
met_wants true h s e = refl
met_wants false true s e = sym (ap not (e refl refl))
met_wants false false s e = refl

-- ---- a window of which nothing is hidden, or all

-- a cell of it is the points of the window in a square
abbrev square : Rect → ℕ → Rect
square r k =
    let x = r.min.x +ℤ pos (32 * (k % cells_across r)) in
    let y = r.min.y +ℤ pos (32 * (k / cells_across r)) in
    record { min = record { x = x; y = y }; max = record { x = x +ℤ pos 32; y = y +ℤ pos 32 } }

pub none_hidden : (below : Rect) (ws : List Window) (at : ℕ) (w : Window) (r place : Rect) → IsWindowAt ws at w → place ≡ standing_part r w.place.min r → hides_at below (take at ws) place ≡ false → (k : ℕ) → hides_cell below ws w.image r k ≡ false
none_hidden below ws at w r place is place_is shown k =
    let whole : hides_at below (take at ws) (standing_part r w.place.min r) ≡ false = ap (hides_at below (take at ws)) (sym place_is) ∙ shown in
    sym (cell_hid below ws at w r k is) ∙ part_shown below (take at ws) r w.place.min (square r k) whole

pub none_wanted : (rows : List (List (Option ℕ))) (below : Rect) (ws : List Window) (areas : List Rect) (i : ℕ) (r : Rect) → ((k : ℕ) → hides_cell below ws i r k ≡ false) → wanted_near rows below ws areas i r ≡ 0
none_wanted rows below ws areas i r none =
    let test = λ (k : ℕ). meets areas (standing_cell ws i r k) && wants rows below ws i r k in
    count_none test 0 (cell_count r)
    (λ k lower.
    let n = 0 + k in
    and_right (meets areas (standing_cell ws i r n)) (wants rows below ws i r n) (and_left (hides_cell below ws i r n) (not (is_some (cell_at rows i n))) (none n)))

pub none_lacks : (rows : List (List (Option ℕ))) (below : Rect) (ws : List Window) (i : ℕ) (r : Rect) → ((k : ℕ) → hides_cell below ws i r k ≡ false) → IsTaken rows below ws i r
none_lacks rows below ws i r none k lower e = absurd (false≢true (sym (none k) ∙ e))

pub all_hidden : (below : Rect) (ws : List Window) (at : ℕ) (w : Window) (r place : Rect) → IsWindowAt ws at w → IsOrdered r → place ≡ standing_part r w.place.min r → ((part : Rect) → IsCellIn place part → list_any (λ v. not (is_empty (meet v.place part))) (take at ws) ≡ true) → (k : ℕ) → k < cell_count r → hides_cell below ws w.image r k ≡ true
all_hidden below ws at w r place is ordered place_is covered k lower =
    let part = standing_part r w.place.min (cell_part r k) in
    let cell : IsCellIn place part = subst (λ (o : Rect). IsCellIn o part) (sym place_is) (cell_in r w.place.min k ordered lower) in
    sym (cell_hid below ws at w r k is)
    ∙ or_right (not (is_inside part below)) (list_any (λ (v : Window). not (is_empty (meet v.place part))) (take at ws)) (covered part cell)

pub none_spared : (rows : List (List (Option ℕ))) (below : Rect) (ws : List Window) (i : ℕ) (r : Rect) → ((k : ℕ) → k < cell_count r → hides_cell below ws i r k ≡ true) → IsGiven rows below ws i r
none_spared rows below ws i r all k lower e = absurd (false≢true (sym e ∙ all k lower))

-- ---- a walk over its cells

-- the cell of a walk is one of the window where it stands
pub walk_cell : (walk : Walk) (r place : Rect) (to : Point) (k : ℕ) → IsAtCell walk r to k → IsOrdered r → k < cell_count r → place ≡ standing_part r to r → IsCellIn place (cell_out walk)
walk_cell walk r place to k at ordered lower place_is =
    subst (λ (o : Rect). IsCellIn o (cell_out walk)) (sym place_is)
    (subst (IsCellIn (standing_part r to r)) (sym (stands_at walk r to k at)) (cell_in r to k ordered lower))

-- and it does not go far
pub walk_near : (walk : Walk) (r : Rect) (to : Point) (k : ℕ) → IsAtCell walk r to k → IsRectNear r → IsOrdered r → IsNear to → k < cell_count r → IsNearBy (2 ^ 42) walk.at
walk_near walk r to k at near ordered to_near lower =
    let begins = cell_begins r k lower in
    let wide = width_most r near ordered in
    let high = height_most r near ordered in
    record {
      left = omega (arith, ints, at.left, to_near.left);
      right = omega (arith, ints, at.left, to_near.right, begins.0, wide);
      top = omega (arith, ints, at.top, to_near.top);
      bottom = omega (arith, ints, at.top, to_near.bottom, begins.1, high);
    }

pub place_near : (r place : Rect) (to : Point) → place ≡ standing_part r to r → IsNear to → IsNearBy (2 ^ 42) place.min
place_near r place to is near =
    let x : place.min.x ≡ r.min.x -ℤ r.min.x +ℤ to.x = ap (λ (p : Rect). p.min.x) is in
    let y : place.min.y ≡ r.min.y -ℤ r.min.y +ℤ to.y = ap (λ (p : Rect). p.min.y) is in
    record {
      left = omega (arith, ints, x, near.left);
      right = omega (arith, ints, x, near.right);
      top = omega (arith, ints, y, near.top);
      bottom = omega (arith, ints, y, near.bottom);
    }
