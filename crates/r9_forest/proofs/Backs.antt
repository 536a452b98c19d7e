-- A number comes back.
use Rattle.std.proofs.Common.{◌≡◌, ◌≢◌, ◌∙◌, ℕ, zero, suc, ◌+◌, ◌<◌, ◌≤◌, Bool, true, false, List, [], ◌∷◌, ◌++◌, None, get_or, length, refl, sym, ap, subst, ⊎_elim, arith, eq-eqb}
use Rattle.std.specs.Prelude.{◌==◌, ◌||◌, is_some, if◌then◌else◌}
use Rattle.std.specs.List.{list_any, AllByRecursion, IsDistinct}
use Rattle.std.specs.Cmp.{IsEquivalence}
use Rattle.std.proofs.lemmas.Bool.{cases_eq, cases_lt, false≢true, ne_eqb}
use Rattle.std.proofs.lemmas.Bool.Decides.{Decides-eqb}
use Rattle.std.proofs.lemmas.List.{get_or_append_left, get_or_default, get_or_push, length_push, reverse-append}
use Rattle.std.proofs.lemmas.List.Elements.{recursion_from_All}
use Rattle.std.proofs.lemmas.Map.Made.{length-le_from_is_member}
use Rattle.model_forest.specs.Numbers.{given_back}
use Rattle.model_forest.specs.World.{World, IsLive}
use Rattle.r9_forest.specs.Numbered.{numbers_of, IsNumbered}

-- ---- different numbers below one are not more than it

laws : IsEquivalence (λ (a b : ℕ). a == b)
laws = record {
  refl = λ x. eq-eqb x x refl;
  symm = λ x y.
      ⊎_elim
      (λ (same : x ≡ y). eq-eqb x y same ∙ sym (eq-eqb y x (sym same)))
      (λ (other : x ≢ y). ne_eqb x y other ∙ sym (ne_eqb y x (λ e. other (sym e))))
      (cases_eq x y);
  congr = λ x y z e. ap (λ (n : ℕ). n == z) ((Decides-eqb x y).0 e);
}

-- all numbers below one
abbrev down : ℕ → List ℕ
down zero = []
down (suc n) = n ∷ down n

down_length : (n : ℕ) → length (down n) ≡ n
down_length zero = refl
down_length (suc n) = ap (λ (m : ℕ). suc m) (down_length n)

down_has : (n q : ℕ) → q < n → list_any (λ m. q == m) (down n) ≡ true
down_has zero q below = absurd (omega (arith, below))
down_has (suc n) q below =
    ⊎_elim
    (λ (same : q ≡ n). ap (λ b. b || list_any (λ m. q == m) (down n)) (eq-eqb q n same))
    (λ (other : q ≢ n). ap (λ b. b || list_any (λ m. q == m) (down n)) (ne_eqb q n other) ∙ down_has n q (smaller other))
    (cases_eq q n)
  where
    smaller : q ≢ n → q < n
    smaller other = ⊎_elim (λ (less : q < n). less) (λ (past : n ≤ q). let same : q ≡ n = omega (arith, past, below) in absurd (other same)) (cases_lt q n)

member_below : (m q : ℕ) (ns : List ℕ) → AllByRecursion (λ n. n < m) ns → list_any (λ n. q == n) ns ≡ true → q < m
member_below m q [] all e = absurd (false≢true e)
member_below m q (n ∷ ns) all e = by_test (member_below m q ns all.1) (q == n) refl e
  where
    by_test : (list_any (λ k. q == k) ns ≡ true → q < m) → (b : Bool) → (q == n) ≡ b → (b || list_any (λ k. q == k) ns) ≡ true → q < m
    by_test rest true same k = let is : q ≡ n = (Decides-eqb q n).0 same in omega (arith, is, all.0)
    by_test rest false other k = rest k

distinct : (ns : List ℕ) → ((j k : ℕ) → j < k → k < length ns → get_or ns j 0 ≢ get_or ns k 0) → IsDistinct (λ a b. a == b) ns
unfolding IsDistinct
distinct [] apart = tt
distinct (n ∷ ns) apart = (
  recursion_from_All (λ m. (n == m) ≡ false) ns
      (λ k d below. ne_eqb n (get_or ns k d) (λ e. apart 0 (suc k) (omega arith) (omega (arith, below)) (e ∙ get_or_default ns k d 0 below))),
  distinct ns (λ j k less below. apart (suc j) (suc k) (omega (arith, less)) (omega (arith, below))),
)

pub few_below : (m : ℕ) (ns : List ℕ) → ((k : ℕ) → k < length ns → get_or ns k 0 < m) → ((j k : ℕ) → j < k → k < length ns → get_or ns j 0 ≢ get_or ns k 0) → length ns ≤ m
few_below m ns below apart =
    let all = recursion_from_All (λ n. n < m) ns (λ k d lt. let same = get_or_default ns k d 0 lt in let small = below k lt in omega (arith, same, small)) in
    let most = length-le_from_is_member laws ns (down m) (distinct ns apart) (λ q has. down_has m q (member_below m q ns all has)) in
    omega (arith, most, down_length m)

-- ---- with the one that came back

-- what is known where it comes back: its image is gone, and no other comes
pub record IsBack (old new : World) (i : ℕ) : Type 0 where
  pub was : IsLive old i
  pub gone : new i ≡ None
  pub none : (n : ℕ) → old n ≡ None → new n ≡ None

module _ (old new : World) (made i : ℕ) (spare : List ℕ) (back : IsBack old new i) (is : IsNumbered old made spare) where
  abbrev all_of : List ℕ
  all_of = spare ++ i ∷ []

  live_none : (n : ℕ) → old n ≡ None → n ≢ i
  live_none n none same = false≢true (sym (ap is_some (ap old (sym same) ∙ none)) ∙ back.was)

  i_below : i < made
  i_below = ⊎_elim (λ (less : i < made). less) (λ (past : made ≤ i). absurd (live_none i (is.beyond i past) refl)) (cases_lt i made)

  early : (k : ℕ) → k < length spare → get_or all_of k 0 ≡ get_or spare k 0
  early k lt = get_or_append_left spare (i ∷ []) 0 k lt

  last : get_or all_of (length spare) 0 ≡ i
  last = get_or_push spare i 0 (length spare) refl

  long : length all_of ≡ length spare + 1
  long = length_push spare i

  -- a property of each number that came back, and of this one
  each : (P : ℕ → Type 0) → ((k : ℕ) → k < length spare → P (get_or spare k 0)) → P i → (k : ℕ) → k < length all_of → P (get_or all_of k 0)
  each P earlier latest k lt =
      ⊎_elim
      (λ (less : k < length spare). subst P (sym (early k less)) (earlier k less))
      (λ (past : length spare ≤ k).
      let same : k ≡ length spare = omega (arith, past, lt, long) in
      subst P (sym (ap (λ n. get_or all_of n 0) same ∙ last)) latest)
      (cases_lt k (length spare))

  apart_all : (j k : ℕ) → j < k → k < length all_of → get_or all_of j 0 ≢ get_or all_of k 0
  apart_all j k less lt e =
      let first : j < length spare = omega (arith, less, lt, long) in
      ⊎_elim
      (λ (within : k < length spare). is.apart j k less within (sym (early j first) ∙ e ∙ early k within))
      (λ (past : length spare ≤ k).
      let same : k ≡ length spare = omega (arith, past, lt, long) in
      live_none (get_or spare j 0) (is.free j first) (sym (early j first) ∙ e ∙ ap (λ n. get_or all_of n 0) same ∙ last))
      (cases_lt k (length spare))

  pub back_numbered : IsNumbered new made (spare ++ i ∷ [])
  back_numbered = record {
    few = is.few;
    below = each (λ n. n < made) is.below i_below;
    free = each (λ n. new n ≡ None) (λ k lt. back.none (get_or spare k 0) (is.free k lt)) back.gone;
    apart = apart_all;
    beyond = λ n past. back.none n (is.beyond n past);
  }

  -- there is room for it
  pub back_room : length spare < made
  back_room =
      let most = few_below made all_of (each (λ n. n < made) is.below i_below) apart_all in
      omega (arith, most, long)

pub back_numbers : (made i : ℕ) (spare : List ℕ) → numbers_of made (spare ++ i ∷ []) ≡ given_back (numbers_of made spare) i
back_numbers made i spare = λ j. record { made = made; spare = reverse-append spare (i ∷ []) j }

-- where there was room the number is there
pub pushed : (spare back : List ℕ) (i : ℕ) {done : Bool} → back ≡ (if done then spare ++ i ∷ [] else spare) → done ≡ true → back ≡ spare ++ i ∷ []
pushed spare back i is done = is ∙ ap (λ b. if b then spare ++ i ∷ [] else spare) done
