-- Windows that are passed over, since no cell of theirs meets an area.
use Rattle.std.proofs.Common.{◌≡◌, ◌∙◌, ℕ, suc, zero, ◌+◌, ◌<◌, ◌≤◌, Bool, true, false, List, [], ◌∷◌, Option, Some, None, cond, drop, get_or, length, refl, sym, ap, subst, eq-eqb, arith}
use Rattle.std.specs.Prelude.{◌==◌, ◌&&◌, ◌||◌, nat_lt, not}
use Rattle.std.specs.List.{count_by, list_any, position_or_len, sum_by}
use Rattle.std.proofs.lemmas.Bool.{and_from, and_parts, false_from_ne_true, false≢true, ne_eqb, or_from, or_parts}
use Rattle.std.proofs.lemmas.Bool.Decides.{Decides-ltb}
use Rattle.std.proofs.lemmas.Int.{ints}
use Rattle.std.proofs.lemmas.List.Quantifiers.{position-Some}
use Rattle.std.proofs.lemmas.List.Sums.{sum_by-cons}
use Rattle.r9_geom.specs.declared.Rect.{Rect}
use Rattle.r9_geom.specs.Geometry.{holds, is_empty, is_inside, meet, IsOrdered}
use Rattle.r9_geom.proofs.GeometryLemmas.{empty_holds, empty_since, holds-meet, inside_tells, same_rect}
use Rattle.model_forest.specs.declared.Window.{Window}
use Rattle.model_forest.specs.World.{SameSize}
use Rattle.model_kept.specs.Cells.{cell_count, cell_part}
use Rattle.r9_cells.specs.Fitting.{meets, standing_cell, standing_part, wanted_near, wants, AreOne, IsWindowAt}
use Rattle.r9_cells.proofs.Counted.{count_none}
use Rattle.r9_cells.proofs.Covering.{place_at}
use Rattle.r9_cells.proofs.Listed.{any_next, no_window, sum_next}
use Rattle.r9_cells.proofs.Walks.{cell_in}
use Rattle.r9_cells.proofs.Windowed.{cell_met}

-- what has no point of an area, no part of it has
off_smaller : (part r a : Rect) → is_inside part r ≡ true → is_empty (meet r a) ≡ true → is_empty (meet part a) ≡ true
off_smaller part r a inside off =
    empty_since (meet part a)
    (λ p.
    false_from_ne_true (holds (meet part a) p)
    (λ h.
    let both = and_parts (holds part p) (holds a p) (sym (holds-meet part a p) ∙ h) in
    let there : holds r p ≡ true = (inside_tells part r (is_inside part r) refl).0 inside p both.0 in
    false≢true (sym (empty_holds (meet r a) p off) ∙ holds-meet r a p ∙ and_from (holds r p) (holds a p) there both.1)))

from_not : (b : Bool) → not b ≡ false → b ≡ true
from_not true e = refl
from_not false e = absurd (false≢true (sym e))

each_off : (areas : List Rect) (part r : Rect) → is_inside part r ≡ true → list_any (λ a. not (is_empty (meet r a))) areas ≡ false → list_any (λ a. not (is_empty (meet part a))) areas ≡ false
each_off [] part r inside off = refl
each_off (a ∷ areas) part r inside off =
    let parts = or_parts (not (is_empty (meet r a))) (list_any (λ (b : Rect). not (is_empty (meet r b))) areas) off in
    or_from (not (is_empty (meet part a))) (list_any (λ (b : Rect). not (is_empty (meet part b))) areas)
    (ap not (off_smaller part r a inside (from_not (is_empty (meet r a)) parts.0)))
    (each_off areas part r inside parts.1)

pub part_off : (areas : List Rect) (part r : Rect) → is_inside part r ≡ true → meets areas r ≡ false → meets areas part ≡ false
part_off areas part r inside off =
    let parts = or_parts (length areas == 0) (list_any (λ (a : Rect). not (is_empty (meet r a))) areas) off in
    or_from (length areas == 0) (list_any (λ (a : Rect). not (is_empty (meet part a))) areas) parts.0 (each_off areas part r inside parts.1)

-- where a window stands that has the size of its image
pub place_is : (place r : Rect) → SameSize place r → standing_part r place.min r ≡ place
place_is place r same =
    same_rect (standing_part r place.min r) place (omega (arith, ints)) (omega (arith, ints)) (omega (arith, ints, same.width)) (omega (arith, ints, same.height))

pub cells_off : (areas : List Rect) (ws : List Window) (at : ℕ) (w : Window) (r : Rect) (k : ℕ) → IsWindowAt ws at w → SameSize w.place r → IsOrdered r → k < cell_count r → meets areas w.place ≡ false → meets areas (standing_cell ws w.image r k) ≡ false
cells_off areas ws at w r k is size ordered below off =
    sym (cell_met areas ws at w r k is)
    ∙ part_off areas (standing_part r w.place.min (cell_part r k)) (standing_part r w.place.min r) (cell_in r w.place.min k ordered below).inside
    (ap (meets areas) (place_is w.place r size) ∙ off)

pub none_near : (rows : List (List (Option ℕ))) (below : Rect) (ws : List Window) (areas : List Rect) (at : ℕ) (w : Window) (r : Rect) → IsWindowAt ws at w → SameSize w.place r → IsOrdered r → meets areas w.place ≡ false → wanted_near rows below ws areas w.image r ≡ 0
none_near rows below ws areas at w r is size ordered off =
    let test = λ (k : ℕ). meets areas (standing_cell ws w.image r k) && wants rows below ws w.image r k in
    count_none test 0 (cell_count r)
    (λ k lower. ap test (omega arith) ∙ ap (λ b. b && wants rows below ws w.image r k) (cells_off areas ws at w r k is size ordered lower off))

-- ---- sums and tests over the windows from one on, where some are passed over

zero_and : (n : ℕ) → 0 + n ≡ n
zero_and n = omega arith

pub sum_skip : (f : Window → ℕ) (ws : List Window) (n a : ℕ) → a + n ≤ length ws → ((k : ℕ) → a ≤ k → k < a + n → f (get_or ws k no_window) ≡ 0) → sum_by f (drop a ws) ≡ sum_by f (drop (a + n) ws)
sum_skip f ws zero a fits none = ap (λ m. sum_by f (drop m ws)) (omega arith)
sum_skip f ws (suc n) a fits none =
    let left = sum_by f (drop (a + 1) ws) in
    sum_next f ws a (omega (arith, fits))
    ∙ ap (λ m. m + left) (none a (omega arith) (omega arith))
    ∙ zero_and left
    ∙ sum_skip f ws n (a + 1) (omega (arith, fits)) (λ k low high. none k (omega (arith, low)) (omega (arith, high)))
    ∙ ap (λ m. sum_by f (drop m ws)) (omega arith)

-- where each of them that passes a test is known to
pub any_skip : (f : Window → Bool) (s : Bool) (ws : List Window) (n a : ℕ) → a + n ≤ length ws → ((k : ℕ) → a ≤ k → k < a + n → f (get_or ws k no_window) ≡ true → s ≡ true) → (s || list_any f (drop a ws)) ≡ (s || list_any f (drop (a + n) ws))
any_skip f s ws zero a fits known = ap (λ m. s || list_any f (drop m ws)) (omega arith)
any_skip f s ws (suc n) a fits known =
    let left = list_any f (drop (a + 1) ws) in
    ap (λ b. s || b) (any_next f ws a (omega (arith, fits)))
    ∙ absorbed s (f (get_or ws a no_window)) left (known a (omega arith) (omega arith))
    ∙ any_skip f s ws n (a + 1) (omega (arith, fits)) (λ k low high. known k (omega (arith, low)) (omega (arith, high)))
    ∙ ap (λ m. s || list_any f (drop m ws)) (omega arith)
  where
    absorbed : (s b c : Bool) → (b ≡ true → s ≡ true) → (s || (b || c)) ≡ (s || c)
    absorbed true b c e = refl
    absorbed false true c e = absurd (false≢true (e refl))
    absorbed false false c e = refl

pub none_skip : (f : Window → Bool) (s : Bool) (ws : List Window) (n a : ℕ) → a + n ≤ length ws → ((k : ℕ) → a ≤ k → k < a + n → f (get_or ws k no_window) ≡ true → s ≡ false) → (not (list_any f (drop a ws)) && s) ≡ (not (list_any f (drop (a + n) ws)) && s)
none_skip f s ws zero a fits known = ap (λ m. not (list_any f (drop m ws)) && s) (omega arith)
none_skip f s ws (suc n) a fits known =
    let left = list_any f (drop (a + 1) ws) in
    ap (λ b. not b && s) (any_next f ws a (omega (arith, fits)))
    ∙ absorbed s (f (get_or ws a no_window)) left (known a (omega arith) (omega arith))
    ∙ none_skip f s ws n (a + 1) (omega (arith, fits)) (λ k low high. known k (omega (arith, low)) (omega (arith, high)))
    ∙ ap (λ m. not (list_any f (drop m ws)) && s) (omega arith)
  where
    absorbed : (s b c : Bool) → (b ≡ true → s ≡ false) → (not (b || c) && s) ≡ (not c && s)
    absorbed s false c e = refl
    absorbed false true true e = refl
    absorbed false true false e = refl
    absorbed true true c e = absurd (false≢true (sym (e refl)))

-- ---- a window of a list in which each image has one

abbrev weight : Bool → ℕ
weight b = cond b 1 0

count_more : (f : Window → Bool) (w : Window) (ws : List Window) → count_by f (w ∷ ws) ≡ weight (f w) + count_by f ws
count_more f w ws = sum_by-cons (λ (v : Window). weight (f v)) w ws

count_some : (f : Window → Bool) (ws : List Window) (k : ℕ) → k < length ws → f (get_or ws k no_window) ≡ true → 1 ≤ count_by f ws
count_some f [] k below is = absurd (omega arith)
count_some f (w ∷ ws) zero below is = omega (arith, count_more f w ws, ap weight is)
count_some f (w ∷ ws) (suc k) below is = omega (arith, count_more f w ws, count_some f ws k (omega (arith, below)) is)

found : (f : Window → Bool) (ws : List Window) (k : ℕ) → k < length ws → f (get_or ws k no_window) ≡ true → count_by f ws ≡ 1 → position_or_len f ws ≡ k
found f [] k below is one = absurd (omega arith)
found f (w ∷ ws) zero below is one = ap (λ b. cond (not b) (1 + position_or_len f ws) 0) is
found f (w ∷ ws) (suc k) below is one = by_first (λ lower less. found f ws k lower is less) (f w) refl
  where
    by_first : (k < length ws → count_by f ws ≡ 1 → position_or_len f ws ≡ k) → (b : Bool) → f w ≡ b → position_or_len f (w ∷ ws) ≡ suc k
    by_first next true e = absurd (omega (arith, count_more f w ws, ap weight e, one, count_some f ws k (omega (arith, below)) is))
    by_first next false e =
        let rest = next (omega (arith, below)) (omega (arith, one, count_more f w ws, ap weight e)) in
        ap (λ b. cond (not b) (1 + position_or_len f ws) 0) e ∙ ap (λ n. 1 + n) rest ∙ omega arith

pub one_at : (ws : List Window) (k : ℕ) → AreOne ws → k < length ws → IsWindowAt ws k (get_or ws k no_window)
one_at ws k one below =
    let w = get_or ws k no_window in
    let at = found (λ (v : Window). v.image == w.image) ws k below (eq-eqb w.image w.image refl) (one k no_window below) in
    record {
      first = ap (λ n. cond (nat_lt n (length ws)) (Some n) None) at ∙ ap (λ b. cond b (Some k) None) ((Decides-ltb k (length ws)).1 below);
      place = sym (place_at w.image ws no_window (subst (λ n. n < length ws) (sym at) below)) ∙ ap (λ n. (get_or ws n no_window).place) at;
    }

-- two of its windows are of two images
pub one_apart : (ws : List Window) (a k : ℕ) → AreOne ws → a < k → k < length ws → ((get_or ws k no_window).image == (get_or ws a no_window).image) ≡ false
one_apart ws a k one before below =
    let i = (get_or ws k no_window).image in
    let j = (get_or ws a no_window).image in
    let other : (j == i) ≡ false = (position-Some (λ (v : Window). v.image == i) ws k no_window (one_at ws k one below).first).2 a before in
    ne_eqb i j (λ e. false≢true (sym other ∙ eq-eqb j i (sym e)))
