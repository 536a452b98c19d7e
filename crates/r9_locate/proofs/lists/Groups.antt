-- A window is found in a group by halves.
use Rattle.std.proofs.Common.{◌≡◌, ℕ, ◌<◌, ◌≤◌, true, false, List, length, get_or, nat_cmp, Result, Ok, Err, ⊎_elim, sym, arith}
use Rattle.std.specs.Prelude.{◌==◌, is_ok}
use Rattle.std.specs.List.{list_any}
use Rattle.std.specs.List.Sorted.{IsBinarySearchResult, IsNonDecreasing, IsPermutation}
use Rattle.std.specs.Result.{MatchResult}
use Rattle.std.proofs.lemmas.Bool.{cases_lt}
use Rattle.std.proofs.lemmas.Bool.Decides.{nat_tests}
use Rattle.std.proofs.lemmas.List.{get_or_default}
use Rattle.std.proofs.lemmas.List.Folds.{list_any_at, list_any_none}
use Rattle.std.proofs.lemmas.List.Sorted.{list_any-IsPermutation, searched}
use Rattle.model_forest.specs.Stack.{is_in}

-- the order of a group does not matter
pub is_in-IsPermutation : (given sorted : List ℕ) → IsPermutation given sorted → is_in sorted ≡ is_in given
is_in-IsPermutation given sorted same = λ j w. sym (list_any-IsPermutation (λ i. i == w.image) given sorted same) j

is_same : (a b : ℕ) → a ≡ b → (a == b) ≡ true
is_same a b same = grind (arith, nat_tests)

is_below : (a b : ℕ) → a < b → (a == b) ≡ false
is_below a b less = grind (arith, nat_tests)

is_above : (a b : ℕ) → b < a → (a == b) ≡ false
is_above a b more = grind (arith, nat_tests)

-- what a search by halves finds is among the numbers, and what it does not find is not
pub found_by_halves : (numbers : List ℕ) (x : ℕ) (r : Result ℕ ℕ) → IsBinarySearchResult (λ y. nat_cmp y x) numbers r → IsNonDecreasing numbers → is_ok r ≡ list_any (λ i. i == x) numbers
found_by_halves numbers x r search ascending = at r (searched numbers x r search (λ i j le below. ascending i j 0 le below))
  where
    at : (r : Result ℕ ℕ) → MatchResult r (λ i. (i < length numbers) × (get_or numbers i 0 ≡ x)) (λ i. (i ≤ length numbers) × ((k : ℕ) → k < i → get_or numbers k 0 < x) × ((k : ℕ) → i ≤ k → k < length numbers → x < get_or numbers k 0))
        → is_ok r ≡ list_any (λ i. i == x) numbers
    at (Ok i) here = sym (list_any_at (λ i. i == x) numbers i 0 here.0 (is_same (get_or numbers i 0) x here.1))
    at (Err i) apart =
        sym (list_any_none (λ i. i == x) numbers (λ k d below.
        ⊎_elim
        (λ low. is_below (get_or numbers k d) x (omega (arith, apart.1 k low, get_or_default numbers k d 0 below)))
        (λ high. is_above (get_or numbers k d) x (omega (arith, apart.2 k high below, get_or_default numbers k d 0 below)))
        (cases_lt k i)))
