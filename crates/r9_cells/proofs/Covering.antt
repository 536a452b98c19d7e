-- Cells of a rectangle, and the windows above one.
use Rattle.std.proofs.Common.{◌≡◌, ◌∙◌, ℕ, zero, suc, length, get_or, take, find, ◌+◌, ◌*◌, ◌/◌, ◌%◌, ◌<◌, ◌≤◌, ◌≢◌, ◌^◌, pos, ◌+ℤ◌, Bool, true, false, All, List, [], ◌∷◌, Some, None, cond, refl, sym, ap, subst, arith, ⊎_elim}
use Rattle.std.specs.Prelude.{◌==◌, ◌||◌, nat_lt, not, if◌then◌else◌}
use Rattle.std.specs.List.{list_any, position_or_len}
use Rattle.std.specs.Option.{option_map_or}
use Rattle.std.proofs.lemmas.Bool.{cases_eq, cases_lt}
use Rattle.std.proofs.lemmas.Bool.Decides.{Decides-ltb}
use Rattle.std.proofs.Math.Nat.{div-add-mod, div-lt_iff_lt-mul, mod-lt, mul_comm}
use Rattle.r9_geom.specs.declared.Point.{Point}
use Rattle.r9_geom.specs.declared.Rect.{Rect}
use Rattle.r9_geom.specs.Geometry.{distance, height, holds, meet, point_at, width, IsNear, IsRectNear}
use Rattle.r9_geom.proofs.GeometryLemmas.{point_holds, strip_distance}
use Rattle.model_forest.specs.declared.Window.{Window}
use Rattle.model_forest.specs.World.{no_rect}
use Rattle.model_kept.specs.Cells.{above, cell_count, cell_of, cell_part, cells_across, hides_under}
use Rattle.model_kept.specs.Keeping.{place_among}
use Rattle.r9_locate.proofs.locate.Locating.{no_rect_near, place_near}
use Rattle.r9_cells.specs.Fitting.{hides_above}

-- a cell begins within the rectangle
pub cell_begins : (r : Rect) (k : ℕ) → k < cell_count r → (32 * (k % cells_across r) < width r) × (32 * (k / cells_across r) < height r)
cell_begins r k below = (omega (arith, column), omega (arith, row))
  where
    across : ℕ
    across = cells_across r

    down : ℕ
    down = (height r + 31) / 32

    some : 0 < across
    some =
        ⊎_elim
        (λ (none : across ≡ 0). absurd (nothing (subst (λ (n : ℕ). k < n * down) none below)))
        (λ (more : across ≢ 0). omega arith)
        (cases_eq across 0)
      where
        nothing : k < 0 * down → ⊥
        nothing less = omega arith

    column : k % across < across
    column = mod-lt k some

    row : k / across < down
    row = (div-lt_iff_lt-mul {k = across} {x = k} {y = down} some).1 (omega (arith, below, mul_comm across down))

-- its corner is a point of the rectangle, and lies in that cell
abbrev pub cell_corner : Rect → ℕ → Point
cell_corner r k = point_at r (32 * (k % cells_across r)) (32 * (k / cells_across r))

pub corner_holds : (r : Rect) (k : ℕ) → k < cell_count r → holds r (cell_corner r k) ≡ true
corner_holds r k below =
    let begins = cell_begins r k below in
    point_holds r (32 * (k % cells_across r)) (32 * (k / cells_across r)) begins.0 begins.1

pub corner_cell : (r : Rect) (k : ℕ) → cell_of r (cell_corner r k) ≡ k
corner_cell r k =
    let a = cells_across r in
    let q = cell_corner r k in
    let column : distance r.min.x q.x ≡ 32 * (k % a) = strip_distance r.min q (32 * (k % a)) refl in
    let row : distance r.min.y q.y ≡ 32 * (k / a) = strip_distance (record { x = r.min.y; y = r.min.y }) (record { x = q.y; y = q.y }) (32 * (k / a)) refl in
    let across : distance r.min.x q.x / 32 ≡ k % a = omega (arith, column) in
    let down : distance r.min.y q.y / 32 ≡ k / a = omega (arith, row) in
    (λ j. down j * a + across j) ∙ ap (λ n. n + k % a) (mul_comm (k / a) a) ∙ div-add-mod k a

-- a cell, as the code computes it
pub cell_is : (r : Rect) (k a : ℕ) (p : Point) → a ≡ cells_across r → p ≡ point_at r (32 * (k % a)) (32 * (k / a)) → meet r (record { min = p; max = record { x = p.x +ℤ pos 32; y = p.y +ℤ pos 32 } }) ≡ cell_part r k
cell_is r k a p a_is p_is =
    let at : p ≡ point_at r (32 * (k % cells_across r)) (32 * (k / cells_across r)) = p_is ∙ ap (λ n. point_at r (32 * (k % n)) (32 * (k / n))) a_is in
    ap (λ (q : Point). meet r (record { min = q; max = record { x = q.x +ℤ pos 32; y = q.y +ℤ pos 32 } })) at

-- the windows above one are those before it
pub above_before : (i : ℕ) (ws : List Window) → above i ws ≡ take (position_or_len (λ w. w.image == i) ws) ws
above_before i [] = refl
above_before i (w ∷ ws) = by_test (above_before i ws) (w.image == i)
  where
    at : ℕ
    at = position_or_len (λ v. v.image == i) ws

    by_test : above i ws ≡ take at ws → (b : Bool) → (if b then [] else w ∷ above i ws) ≡ take (cond (not b) (1 + at) 0) (w ∷ ws)
    by_test rest true = refl
    by_test rest false = let first : suc at ≡ 1 + at = omega arith in ap (λ l. w ∷ l) rest ∙ ap (λ n. take n (w ∷ ws)) first

-- and where it stands in the list, it has its place
pub place_at : (i : ℕ) (ws : List Window) (d : Window) → position_or_len (λ w. w.image == i) ws < length ws → (get_or ws (position_or_len (λ w. w.image == i) ws) d).place ≡ place_among ws i
place_at i [] d below = absurd (omega arith)
place_at i (w ∷ ws) d below = by_test (λ lower. place_at i ws d lower) (w.image == i) below
  where
    at : ℕ
    at = position_or_len (λ v. v.image == i) ws

    by_test : (at < length ws → (get_or ws at d).place ≡ place_among ws i) → (b : Bool) → cond (not b) (1 + at) 0 < suc (length ws) → (get_or (w ∷ ws) (cond (not b) (1 + at) 0) d).place ≡ option_map_or (λ (v : Window). v.place) (cond b (Some w) (find (λ (v : Window). v.image == i) ws)) no_rect
    by_test rest true below = refl
    by_test rest false below = let first : 1 + at ≡ suc at = omega arith in ap (λ n. (get_or (w ∷ ws) n d).place) first ∙ rest (omega (arith, below))

pub place_none : (i : ℕ) (ws : List Window) → length ws ≤ position_or_len (λ w. w.image == i) ws → place_among ws i ≡ no_rect
place_none i [] past = refl
place_none i (w ∷ ws) past = by_test (λ over. place_none i ws over) (w.image == i) past
  where
    at : ℕ
    at = position_or_len (λ v. v.image == i) ws

    by_test : (length ws ≤ at → place_among ws i ≡ no_rect) → (b : Bool) → suc (length ws) ≤ cond (not b) (1 + at) 0 → option_map_or (λ (v : Window). v.place) (cond b (Some w) (find (λ (v : Window). v.image == i) ws)) no_rect ≡ no_rect
    by_test rest true past = absurd (omega (arith, past))
    by_test rest false past = rest (omega (arith, past))

pub position_some : (n len at : ℕ) → cond (nat_lt n len) (Some n) None ≡ Some at → n ≡ at
position_some n len at e = by_test (nat_lt n len) e
  where
    by_test : (b : Bool) → cond b (Some n) None ≡ Some at → n ≡ at
    by_test true k = cc
    by_test false k = cc

pub position_none : (n len : ℕ) → cond (nat_lt n len) (Some n) None ≡ None → len ≤ n
position_none n len e =
    ⊎_elim
    (λ (below : n < len). let some : Some n ≡ None = sym (ap (λ b. cond b (Some n) None) ((Decides-ltb n len).1 below)) ∙ e in absurd (cc))
    (λ (past : len ≤ n). past)
    (cases_lt n len)

-- where the place begins
pub to_near : (ws : List Window) (i : ℕ) (to : Point) → All (λ w. IsRectNear w.place) ws → to ≡ (place_among ws i).min → IsNear to
to_near ws i to places is = subst IsNear (sym is) (place_near (2 ^ 40) ws i places (no_rect_near (2 ^ 40)))

-- what the windows above hide of a part of one
pub under : (below : Rect) (ws upper : List Window) (i : ℕ) (r : Rect) (to : Point) (part : Rect) → upper ≡ above i ws → to ≡ (place_among ws i).min → hides_above below upper r to part ≡ hides_under below ws i r part
under below ws upper i r to part above_is to_is = λ j. hides_above below (above_is j) r (to_is j) part

-- what is asked of the first windows of a list, one more
pub any_take : (f : Window → Bool) (ws : List Window) (k : ℕ) (d : Window) → k < length ws → list_any f (take (suc k) ws) ≡ (list_any f (take k ws) || f (get_or ws k d))
any_take f [] k d below = absurd (omega arith)
any_take f (w ∷ ws) zero d below = or_false (f w)
  where
    or_false : (b : Bool) → (b || false) ≡ b
    or_false true = refl
    or_false false = refl
any_take f (w ∷ ws) (suc k) d below = ap (λ b. f w || b) (any_take f ws k d (omega arith)) ∙ either (f w) (list_any f (take k ws)) (f (get_or ws k d))
  where
    either : (a b c : Bool) → (a || (b || c)) ≡ ((a || b) || c)
    either true b c = refl
    either false b c = refl
