-- Windows with which two lists begin, and lists in which each image has one window.
use Rattle.std.proofs.Common.{◌≡◌, ◌≢◌, ◌∙◌, ℕ, zero, suc, ◌+◌, ◌++◌, ◌<◌, ◌≤◌, Bool, true, false, All, List, [], ◌∷◌, Some, None, cond, get_or, length, length-append, take, refl, sym, ap, subst, eq-eqb, arith}
use Rattle.std.specs.Prelude.{◌==◌, ◌||◌, if◌then◌else◌}
use Rattle.std.specs.List.{list_any, position, position_or_len}
use Rattle.std.proofs.lemmas.Bool.{true≢false}
use Rattle.std.proofs.lemmas.List.{get_or-take, length-take-le, take-append-le, take_all}
use Rattle.std.proofs.lemmas.List.Folds.{list_any_at}
use Rattle.std.proofs.lemmas.List.Quantifiers.{position-Some}
use Rattle.std.proofs.lemmas.List.Sums.{fails_before_first, sum_by-cons}
use Rattle.model_forest.specs.declared.Window.{Window}
use Rattle.model_forest.specs.World.{no_rect}
use Rattle.model_forest.proofs.Listed.{All-listed}
use Rattle.model_forest.proofs.Sound.{times}
use Rattle.model_kept.specs.Cells.{above}
use Rattle.r9_cells.specs.Fitting.{AreOne, IsWindowAt}
use Rattle.r9_cells.proofs.Covering.{position_none}
use Rattle.r9_restack.specs.Stacks.{IsFront}

no_window : Window
no_window = record { image = 0; place = no_rect }

-- a window that stands in a list is in it
pub at_listed : (ws : List Window) (at : ℕ) (v : Window) → IsWindowAt ws at v → list_any (λ u. u.image == v.image) ws ≡ true
at_listed ws at v is =
    let found = position-Some (λ (u : Window). u.image == v.image) ws at no_window is.first in
    list_any_at (λ u. u.image == v.image) ws at no_window found.0 found.1

-- above one of the first windows there are no more in the whole list
above-take : (i n : ℕ) (ws : List Window) → list_any (λ v. v.image == i) (take n ws) ≡ true → above i (take n ws) ≡ above i ws
above-take i zero [] listed = refl
above-take i zero (w ∷ ws) listed = cc
above-take i (suc n) [] listed = refl
above-take i (suc n) (w ∷ ws) listed = by_test (above-take i n ws) (w.image == i) listed
  where
    by_test : (list_any (λ v. v.image == i) (take n ws) ≡ true → above i (take n ws) ≡ above i ws) → (b : Bool) → (b || list_any (λ v. v.image == i) (take n ws)) ≡ true → (if b then [] else w ∷ above i (take n ws)) ≡ (if b then [] else w ∷ above i ws)
    by_test rest true here = refl
    by_test rest false here = ap (λ l. w ∷ l) (rest here)

-- one of the windows with which both lists begin is another, and under the same ones in both
pub front_above : (old ws : List Window) (w n at : ℕ) (v : Window) → IsFront old ws w n → IsWindowAt ws at v → at < n → (v.image ≢ w) × (above v.image ws ≡ above v.image old)
front_above old ws w n at v front is below =
    let i = v.image in
    let test : Window → Bool = λ u. u.image == i in
    let found = position-Some test ws at no_window is.first in
    let long = length-take-le n ws front.new in
    let listed : list_any test (take n ws) ≡ true = list_any_at test (take n ws) at no_window (omega (arith, below, long)) (ap test (get_or-take n ws at no_window below) ∙ found.1) in
    let one = All-listed (λ u. u.image ≢ w) (take n ws) i front.apart listed in (
      subst (λ m. m ≢ w) one.1 one.2,
      sym (above-take i n ws listed) ∙ ap (above i) (sym front.same) ∙ above-take i n old (ap (list_any test) front.same ∙ listed),
    )

-- the windows before that of an image, and all where it has none
pub front_before : (ws : List Window) (w at : ℕ) → position (λ v. v.image == w) ws ≡ Some at → IsFront ws (take at ws) w (length (take at ws))
front_before ws w at first =
    let test : Window → Bool = λ v. v.image == w in
    let found = position-Some test ws at no_window first in
    let long : length (take at ws) ≡ at = length-take-le at ws (omega (arith, found.0)) in
    record {
      old = omega (arith, long, found.0);
      new = omega arith;
      same = ap (λ n. take n ws) long ∙ sym (take_all (length (take at ws)) (take at ws) (omega arith));
      apart = λ k d below same.
          let lower : k < length (take at ws) = subst (λ (l : List Window). k < length l) (take_all (length (take at ws)) (take at ws) (omega arith)) below in
          let here = ap (λ (l : List Window). (get_or l k d).image) (take_all (length (take at ws)) (take at ws) (omega arith)) ∙ ap (λ (v : Window). v.image) (get_or-take at ws k d (omega (arith, lower, long))) in
          let none = (position-Some test ws at d first).2 k (omega (arith, lower, long)) in
          true≢false (sym (eq-eqb (get_or ws k d).image w (sym here ∙ same)) ∙ none);
    }

pub front_whole : (ws : List Window) (w : ℕ) → position (λ v. v.image == w) ws ≡ None → IsFront ws ws w (length ws)
front_whole ws w none = record {
  old = omega arith;
  new = omega arith;
  same = refl;
  apart = λ k d below same.
      let test : Window → Bool = λ v. v.image == w in
      let all = take_all (length ws) ws (omega arith) in
      let lower : k < length ws = subst (λ (l : List Window). k < length l) all below in
      let past = position_none (position_or_len test ws) (length ws) none in
      let here = ap (λ (l : List Window). (get_or l k d).image) (sym all) ∙ same in
      true≢false (sym (eq-eqb (get_or ws k d).image w here) ∙ fails_before_first test ws k d (omega (arith, lower, past)));
}

-- before a list in two parts, of which one begins with all of the first part
pub front_joined : (old upper lower : List Window) (w : ℕ) → IsFront old upper w (length upper) → IsFront old (upper ++ lower) w (length upper)
front_joined old upper lower w front =
    let n = length upper in
    let same : take n (upper ++ lower) ≡ take n upper = take-append-le n upper lower (omega arith) in
    record {
      old = front.old;
      new = omega (arith, length-append upper lower);
      same = front.same ∙ sym same;
      apart = subst (All (λ (v : Window). v.image ≢ w)) (sym same) front.apart;
    }

-- among which another image is not that is in neither list
pub front_other : (old ws : List Window) (w p n : ℕ) → IsFront old ws w n → All (λ v. v.image ≢ p) ws → IsFront old ws p n
front_other old ws w p n front none = record {
  old = front.old;
  new = front.new;
  same = front.same;
  apart = λ k d below same.
      let long = length-take-le n ws front.new in
      let most = front.new in
      none k d (omega (arith, below, long, most)) (sym (ap (λ (v : Window). v.image) (get_or-take n ws k d (omega (arith, below, long)))) ∙ same);
}

-- ---- each image has one window

times-more : (w : Window) (ws : List Window) (n : ℕ) → times (w ∷ ws) n ≡ cond (w.image == n) 1 0 + times ws n
times-more w ws n = sum_by-cons (λ (v : Window). cond (v.image == n) 1 0) w ws

times-some : (ws : List Window) (k : ℕ) (d : Window) → k < length ws → 1 ≤ times ws (get_or ws k d).image
times-some [] k d below = absurd (omega arith)
times-some (w ∷ ws) zero d below =
    let more = times-more w ws w.image ∙ ap (λ b. cond b 1 0 + times ws w.image) (eq-eqb w.image w.image refl) in
    omega (arith, more)
times-some (w ∷ ws) (suc k) d below =
    let more = times-more w ws (get_or ws k d).image in
    let rest = times-some ws k d (omega arith) in
    omega (arith, more, rest)

-- where none stands twice
pub are_one : (ws : List Window) → ((n : ℕ) → times ws n ≤ 1) → AreOne ws
are_one ws once k d below = let most = once (get_or ws k d).image in omega (arith, most, times-some ws k d below)
