-- The windows above one in a list.
use Rattle.std.proofs.Common.{◌≡◌, ◌∙◌, ℕ, zero, suc, length, get_or, take, ◌+◌, ◌<◌, ◌≤◌, Bool, true, false, List, [], ◌∷◌, Some, None, cond, find, refl, sym, ap, arith}
use Rattle.std.specs.Prelude.{◌==◌, is_none, not}
use Rattle.std.specs.List.{position, position_or_len}
use Rattle.std.specs.Option.{option_map_or}
use Rattle.std.proofs.lemmas.Grind.{common_steps}
use Rattle.std.proofs.lemmas.List.Quantifiers.{position-Some}
use Rattle.std.proofs.lemmas.List.Sums.{fails_before_first, position_or_len_is}
use Rattle.r9_geom.specs.declared.Point.{Point}
use Rattle.r9_geom.specs.Geometry.{holds}
use Rattle.model_forest.specs.declared.Window.{Window}
use Rattle.model_forest.specs.View.{is_bare, top_window}
use Rattle.model_forest.specs.World.{no_rect}
use Rattle.model_kept.specs.Keeping.{is_top, place_among}

-- a window is the topmost one at a point of its place where none above it stands
pub top_above : (i : ℕ) (ws : List Window) (q : Point) → position_or_len (λ w. w.image == i) ws < length ws → holds (place_among ws i) q ≡ true → is_top ws i q ≡ is_bare (take (position_or_len (λ w. w.image == i) ws) ws) q
top_above i [] q below h = absurd (omega arith)
top_above i (w ∷ ws) q below h = by_test (λ lower k. top_above i ws q lower k) (w.image == i) refl below h
  where
    at : ℕ
    at = position_or_len (λ v. v.image == i) ws

    by_test : (at < length ws → holds (place_among ws i) q ≡ true → is_top ws i q ≡ is_bare (take at ws) q) → (b : Bool) → (w.image == i) ≡ b → cond (not b) (1 + at) 0 < suc (length ws) → holds (option_map_or (λ (v : Window). v.place) (cond b (Some w) (find (λ (v : Window). v.image == i) ws)) no_rect) q ≡ true → is_top (w ∷ ws) i q ≡ is_bare (take (cond (not b) (1 + at) 0) (w ∷ ws)) q
    by_test rest true e below h = ap (λ t. option_map_or (λ (v : Window). v.image == i) (cond t (Some w) (top_window ws q)) false) h ∙ e
    by_test rest false e below h =
        let first : 1 + at ≡ suc at = omega arith in
        by_holds (holds w.place q) ∙ ap (λ n. is_bare (take n (w ∷ ws)) q) (sym first)
      where
        by_holds : (t : Bool) → option_map_or (λ (v : Window). v.image == i) (cond t (Some w) (top_window ws q)) false ≡ is_none (cond t (Some w) (top_window (take at ws) q))
        by_holds true = e
        by_holds false = rest (omega (arith, below)) h

-- one of the windows of a list stands at a point
pub covered_by : (ws : List Window) (k : ℕ) (d : Window) (q : Point) → k < length ws → holds (get_or ws k d).place q ≡ true → is_bare ws q ≡ false
covered_by [] k d q below h = absurd (omega arith)
covered_by (w ∷ ws) zero d q below h = ap (λ t. is_none (cond t (Some w) (top_window ws q))) h
covered_by (w ∷ ws) (suc k) d q below h = by_holds (covered_by ws k d q (omega arith) h) (holds w.place q)
  where
    by_holds : is_bare ws q ≡ false → (t : Bool) → is_none (cond t (Some w) (top_window ws q)) ≡ false
    by_holds rest true = refl
    by_holds rest false = rest

-- none of them does
pub bare_of : (ws : List Window) (q : Point) → ((k : ℕ) (d : Window) → k < length ws → holds (get_or ws k d).place q ≡ false) → is_bare ws q ≡ true
bare_of [] q clear = refl
bare_of (w ∷ ws) q clear =
    ap (λ t. is_none (cond t (Some w) (top_window ws q))) (clear 0 w (omega arith)) ∙ bare_of ws q (λ k d below. clear (suc k) d (omega (arith, below)))

-- the first one that stands at a point is topmost
pub top_none : (ws : List Window) (z : Point) → ((k : ℕ) (d : Window) → k < length ws → holds (get_or ws k d).place z ≡ false) → top_window ws z ≡ None
top_none [] z clear = refl
top_none (w ∷ ws) z clear = ap (λ b. cond b (Some w) (top_window ws z)) (clear 0 w (omega arith)) ∙ top_none ws z (λ k d below. clear (suc k) d (omega (arith, below)))

pub top_first : (ws : List Window) (z : Point) (i : ℕ) (d : Window) → i < length ws → ((j : ℕ) → j < i → holds (get_or ws j d).place z ≡ false) → holds (get_or ws i d).place z ≡ true → top_window ws z ≡ Some (get_or ws i d)
top_first [] z i d below none is = absurd (omega (arith, below))
top_first (w ∷ ws) z zero d below none is = ap (λ b. cond b (Some w) (top_window ws z)) is
top_first (w ∷ ws) z (suc i) d below none is =
    ap (λ b. cond b (Some w) (top_window ws z)) (none 0 (omega arith))
    ∙ top_first ws z i d (omega (arith, below)) (λ j before. none (suc j) (omega (arith, before))) is

-- where the first window of an image stands in a list
pub position_at : (i : ℕ) (ws : List Window) (k : ℕ) → position (λ w. w.image == i) ws ≡ Some k → position_or_len (λ w. w.image == i) ws ≡ k
position_at i ws k found = grind (arith, common_steps)

place_first : (i : ℕ) (ws : List Window) (k : ℕ) (d : Window) → k < length ws → ((get_or ws k d).image == i) ≡ true → ((j : ℕ) → j < k → ((get_or ws j d).image == i) ≡ false) → place_among ws i ≡ (get_or ws k d).place
place_first i [] k d below is before = absurd (omega arith)
place_first i (w ∷ ws) zero d below is before =
    ap (λ t. option_map_or (λ (v : Window). v.place) (cond t (Some w) (find (λ (v : Window). v.image == i) ws)) no_rect) is
place_first i (w ∷ ws) (suc k) d below is before =
    ap (λ t. option_map_or (λ (v : Window). v.place) (cond t (Some w) (find (λ (v : Window). v.image == i) ws)) no_rect) (before 0 (omega arith))
    ∙ place_first i ws k d (omega arith) is (λ j lower. before (suc j) (omega (arith, lower)))

pub place_at : (i : ℕ) (ws : List Window) (k : ℕ) (d : Window) → position (λ w. w.image == i) ws ≡ Some k → place_among ws i ≡ (get_or ws k d).place
place_at i ws k d found =
    let is = position-Some (λ (w : Window). w.image == i) ws k d found in
    place_first i ws k d is.0 is.1 is.2

pub top_at : (i : ℕ) (ws : List Window) (q : Point) (k : ℕ) (d : Window) → position (λ w. w.image == i) ws ≡ Some k → holds (get_or ws k d).place q ≡ true → is_top ws i q ≡ is_bare (take k ws) q
top_at i ws q k d found h =
    let is = position-Some (λ (w : Window). w.image == i) ws k d found in
    let at = position_at i ws k found in
    top_above i ws q (omega (arith, is.0, at)) (ap (λ r. holds r q) (place_at i ws k d found) ∙ h) ∙ ap (λ n. is_bare (take n ws) q) at

-- what is in no list is topmost nowhere
not_top : (i : ℕ) (ws : List Window) (q : Point) → ((k : ℕ) (d : Window) → k < length ws → ((get_or ws k d).image == i) ≡ false) → is_top ws i q ≡ false
not_top i [] q none = refl
not_top i (w ∷ ws) q none = by_holds (none 0 w (omega arith)) (not_top i ws q (λ k d below. none (suc k) d (omega (arith, below)))) (holds w.place q)
  where
    by_holds : (w.image == i) ≡ false → is_top ws i q ≡ false → (t : Bool) → option_map_or (λ (v : Window). v.image == i) (cond t (Some w) (top_window ws q)) false ≡ false
    by_holds here rest true = here
    by_holds here rest false = rest

pub nowhere_top : (i : ℕ) (ws : List Window) (q : Point) → position (λ w. w.image == i) ws ≡ None → is_top ws i q ≡ false
nowhere_top i ws q missing =
    let none : length ws ≤ position_or_len (λ (w : Window). w.image == i) ws = grind (arith, common_steps) in
    not_top i ws q (λ k d below. fails_before_first (λ (w : Window). w.image == i) ws k d (omega (arith, below, none)))

-- the first window of an image is where none before it is its
pub first_at : (i : ℕ) (ws : List Window) (k : ℕ) (d : Window) → k < length ws → ((get_or ws k d).image == i) ≡ true → ((j : ℕ) → j < k → ((get_or ws j d).image == i) ≡ false) → position (λ w. w.image == i) ws ≡ Some k
first_at i ws k d below is before =
    let at = position_or_len_is (λ (w : Window). w.image == i) ws k d (omega (arith, below)) before (λ within. is) in
    grind (arith, common_steps)

pub first_nowhere : (i : ℕ) (ws : List Window) (d : Window) → ((j : ℕ) → j < length ws → ((get_or ws j d).image == i) ≡ false) → position (λ w. w.image == i) ws ≡ None
first_nowhere i ws d none =
    let at = position_or_len_is (λ (w : Window). w.image == i) ws (length ws) d (omega arith) none (λ within. absurd (omega (arith, within))) in
    grind (arith, common_steps)
