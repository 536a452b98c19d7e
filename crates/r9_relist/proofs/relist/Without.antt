-- A list of windows without one of them.
use Rattle.std.proofs.Common.{◌≡◌, ◌≢◌, ◌∙◌, ℕ, suc, ◌+◌, ◌≤◌, Bool, true, false, All, List, [], ◌∷◌, ◌++◌, Some, cond, drop, find, take, refl, sym, ap, arith, eq-eqb}
use Rattle.std.specs.Prelude.{◌==◌, ◌||◌, not, if◌then◌else◌}
use Rattle.std.specs.Option.{option_map_or}
use Rattle.std.specs.List.{after_first, before_first, list_any, position_or_len, remove, AllByRecursion}
use Rattle.std.proofs.lemmas.Bool.{ne_eqb, or_right, true≢false}
use Rattle.std.proofs.lemmas.Bool.Decides.{Decides-eqb}
use Rattle.std.proofs.lemmas.List.Elements.{All-from_recursion, recursion_from_All}
use Rattle.std.proofs.lemmas.List.Sums.{sum_by-cons}
use Rattle.r9_geom.specs.declared.Point.{Point}
use Rattle.r9_geom.specs.Geometry.{holds}
use Rattle.model_forest.specs.declared.Window.{Window}
use Rattle.model_forest.specs.Stack.{without}
use Rattle.model_forest.specs.View.{top_window}
use Rattle.model_forest.specs.World.{no_rect}
use Rattle.model_forest.proofs.Sound.{times}
use Rattle.model_kept.specs.Cells.{above}
use Rattle.model_kept.specs.Keeping.{place_among}

-- ---- what is found

found-without : (w i : ℕ) (ws : List Window) → i ≢ w → find (λ v. v.image == i) (without w ws) ≡ find (λ v. v.image == i) ws
found-without w i [] other = refl
found-without w i (v ∷ vs) other = by_test (found-without w i vs other) (v.image == w) refl
  where
    by_test : find (λ u. u.image == i) (without w vs) ≡ find (λ u. u.image == i) vs → (b : Bool) → (v.image == w) ≡ b → find (λ u. u.image == i) (cond (not b) (v ∷ without w vs) (without w vs)) ≡ find (λ u. u.image == i) (v ∷ vs)
    by_test rest true e =
        let is : v.image ≡ w = (Decides-eqb v.image w).0 e in
        rest ∙ sym (ap (λ c. cond c (Some v) (find (λ u. u.image == i) vs)) (ne_eqb v.image i (λ same. other (sym same ∙ is))))
    by_test rest false e = ap (λ o. cond (v.image == i) (Some v) o) rest

pub place-without : (w i : ℕ) (ws : List Window) → i ≢ w → place_among (without w ws) i ≡ place_among ws i
place-without w i ws other = ap (λ o. option_map_or (λ (v : Window). v.place) o no_rect) (found-without w i ws other)

some_same : (u v : Window) → Some u ≡ Some v → u ≡ v
some_same u v e = cc

-- another window stays topmost
pub top-without : (w : ℕ) (z : Point) (ws : List Window) (v : Window) → top_window ws z ≡ Some v → v.image ≢ w → top_window (without w ws) z ≡ Some v
top-without w z [] v top other = cc
top-without w z (u ∷ us) v top other = by_tests (λ k. top-without w z us v k other) (u.image == w) refl (holds u.place z) refl top
  where
    by_tests : (top_window us z ≡ Some v → top_window (without w us) z ≡ Some v) → (b : Bool) → (u.image == w) ≡ b → (h : Bool) → holds u.place z ≡ h → cond h (Some u) (top_window us z) ≡ Some v → top_window (cond (not b) (u ∷ without w us) (without w us)) z ≡ Some v
    by_tests rest true e true inside here = absurd (other (ap (λ (t : Window). t.image) (sym (some_same u v here)) ∙ (Decides-eqb u.image w).0 e))
    by_tests rest true e false inside here = rest here
    by_tests rest false e true inside here = ap (λ h. cond h (Some u) (top_window (without w us) z)) inside ∙ here
    by_tests rest false e false inside here = ap (λ h. cond h (Some u) (top_window (without w us) z)) inside ∙ rest here

-- where it does not stand all stays
past : (w : ℕ) (z : Point) (ws : List Window) → AllByRecursion (λ v. v.image ≡ w → holds v.place z ≡ false) ws → top_window (without w ws) z ≡ top_window ws z
past w z [] all = refl
past w z (u ∷ us) all = by_test (past w z us all.1) (u.image == w) refl
  where
    by_test : top_window (without w us) z ≡ top_window us z → (b : Bool) → (u.image == w) ≡ b → top_window (cond (not b) (u ∷ without w us) (without w us)) z ≡ top_window (u ∷ us) z
    by_test rest true e = rest ∙ sym (ap (λ h. cond h (Some u) (top_window us z)) (all.0 ((Decides-eqb u.image w).0 e)))
    by_test rest false e = ap (λ o. cond (holds u.place z) (Some u) o) rest

pub top-past : (w : ℕ) (z : Point) (ws : List Window) → All (λ v. v.image ≡ w → holds v.place z ≡ false) ws → top_window (without w ws) z ≡ top_window ws z
top-past w z ws all = past w z ws (recursion_from_All (λ v. v.image ≡ w → holds v.place z ≡ false) ws all)

-- ---- it has the others

apart_all : (w : ℕ) (ws : List Window) → AllByRecursion (λ v. v.image ≢ w) (without w ws)
apart_all w [] = tt
apart_all w (v ∷ vs) = by_test (apart_all w vs) (v.image == w) refl
  where
    by_test : AllByRecursion (λ u. u.image ≢ w) (without w vs) → (b : Bool) → (v.image == w) ≡ b → AllByRecursion (λ u. u.image ≢ w) (cond (not b) (v ∷ without w vs) (without w vs))
    by_test rest true e = rest
    by_test rest false e = (λ same. true≢false (sym (eq-eqb v.image w same) ∙ e), rest)

pub without-apart : (w : ℕ) (ws : List Window) → All (λ v. v.image ≢ w) (without w ws)
without-apart w ws = All-from_recursion (λ v. v.image ≢ w) (without w ws) (apart_all w ws)

-- above another window there are no more
pub above-without : (f : Window → Bool) (n w : ℕ) (ws : List Window) → n ≢ w → list_any f (above n (without w ws)) ≡ true → list_any f (above n ws) ≡ true
above-without f n w [] other h = h
above-without f n w (v ∷ vs) other h = by_tests (above-without f n w vs other) (v.image == w) refl (v.image == n) refl h
  where
    more : (list_any f (above n (without w vs)) ≡ true → list_any f (above n vs) ≡ true) → (b : Bool) → (b || list_any f (above n (without w vs))) ≡ true → (b || list_any f (above n vs)) ≡ true
    more rest true e = refl
    more rest false e = rest e

    by_tests : (list_any f (above n (without w vs)) ≡ true → list_any f (above n vs) ≡ true) → (b : Bool) → (v.image == w) ≡ b → (c : Bool) → (v.image == n) ≡ c → list_any f (above n (cond (not b) (v ∷ without w vs) (without w vs))) ≡ true → list_any f (above n (v ∷ vs)) ≡ true
    by_tests rest true e true is k = absurd (other (sym ((Decides-eqb v.image n).0 is) ∙ (Decides-eqb v.image w).0 e))
    by_tests rest true e false is k =
        ap (λ b. list_any f (if b then [] else v ∷ above n vs)) is ∙ or_right (f v) (list_any f (above n vs)) (rest k)
    by_tests rest false e true is k =
        ap (λ b. list_any f (if b then [] else v ∷ above n vs)) is ∙ sym (ap (λ b. list_any f (if b then [] else v ∷ above n (without w vs))) is) ∙ k
    by_tests rest false e false is k =
        ap (λ b. list_any f (if b then [] else v ∷ above n vs)) is
        ∙ more rest (f v) (sym (ap (λ b. list_any f (if b then [] else v ∷ above n (without w vs))) is) ∙ k)

-- ---- the parts above and below it

-- how often one element is counted
abbrev once_for : Bool → ℕ
once_for b = cond b 1 0

no_times : (w : ℕ) (ws : List Window) → times ws w ≡ 0 → without w ws ≡ ws
no_times w [] none = refl
no_times w (v ∷ vs) none = by_test (no_times w vs) (v.image == w) refl
  where
    count : times (v ∷ vs) w ≡ once_for (v.image == w) + times vs w
    count = sum_by-cons (λ (u : Window). once_for (u.image == w)) v vs

    by_test : (times vs w ≡ 0 → without w vs ≡ vs) → (b : Bool) → (v.image == w) ≡ b → cond (not b) (v ∷ without w vs) (without w vs) ≡ v ∷ vs
    by_test rest true e =
        let one : once_for (v.image == w) ≡ 1 = ap once_for e in
        absurd (omega (arith, count, one, none))
    by_test rest false e =
        let zero_here : once_for (v.image == w) ≡ 0 = ap once_for e in
        ap (λ us. v ∷ us) (rest (omega (arith, count, zero_here, none)))

pub parts-without : (w : ℕ) (ws : List Window) → times ws w ≤ 1 → before_first (λ v. v.image == w) ws ++ after_first (λ v. v.image == w) ws ≡ without w ws
parts-without w [] most = refl
parts-without w (v ∷ vs) most = by_test (parts-without w vs) (v.image == w) refl
  where
    at : ℕ
    at = position_or_len (λ u. u.image == w) vs

    count : times (v ∷ vs) w ≡ once_for (v.image == w) + times vs w
    count = sum_by-cons (λ (u : Window). once_for (u.image == w)) v vs

    more : take (1 + at) (v ∷ vs) ++ drop (1 + at + 1) (v ∷ vs) ≡ v ∷ (take at vs ++ drop (at + 1) vs)
    more =
        let first : 1 + at ≡ suc at = omega arith in
        let second : 1 + at + 1 ≡ suc (at + 1) = omega arith in
        (λ j. take (first j) (v ∷ vs) ++ drop (second j) (v ∷ vs))

    by_test : (times vs w ≤ 1 → take at vs ++ drop (at + 1) vs ≡ without w vs) → (b : Bool) → (v.image == w) ≡ b → take (cond (not b) (1 + at) 0) (v ∷ vs) ++ drop (cond (not b) (1 + at) 0 + 1) (v ∷ vs) ≡ cond (not b) (v ∷ without w vs) (without w vs)
    by_test rest true e =
        let one : once_for (v.image == w) ≡ 1 = ap once_for e in
        sym (no_times w vs (omega (arith, count, one, most)))
    by_test rest false e =
        more ∙ ap (λ us. v ∷ us) (rest (omega (arith, count, most)))

-- ---- it is taken out of its place

pub removed : {T : Type 0} (xs : List T) (n : ℕ) → remove xs n ≡ take n xs ++ drop (n + 1) xs
removed xs n =
    let more : suc n ≡ n + 1 = omega arith in
    (λ j. take n xs ++ drop (more j) xs)
