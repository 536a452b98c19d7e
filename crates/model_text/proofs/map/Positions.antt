-- Where a search among a list's elements stops.
use Rattle.std.proofs.Common.{◌≡◌, ℕ, ◌≤◌, Bool, true, false, cond, List, length, Option, Some, None, refl, ap, ◌∙◌, arith}
use Rattle.std.specs.Prelude.{nat_lt, not}
use Rattle.std.specs.Option.{unwrap_or}
use Rattle.std.specs.List.{position_or_len}
use Rattle.std.proofs.lemmas.List.Sums.{prefix_len-le-length}
use borrow.Author.Tests.{ltb-false}

at_most : (i n : ℕ) (b : Bool) → nat_lt i n ≡ b → i ≤ n → unwrap_or (cond b (Some i) None) n ≡ i
at_most i n true e h = refl
at_most i n false e h = omega (arith, ltb-false)

-- the place of the first that is found, or the end
pub place_or_end : {X : Type 0} (p : X → Bool) (xs : List X) (found : Option ℕ) (place : ℕ)
    → found ≡ cond (nat_lt (position_or_len p xs) (length xs)) (Some (position_or_len p xs)) None
    → place ≡ unwrap_or found (length xs) → place ≡ position_or_len p xs
place_or_end p xs found place is chosen =
    chosen ∙ ap (λ (o : Option ℕ). unwrap_or o (length xs)) is ∙ at_most (position_or_len p xs) (length xs) _ refl (prefix_len-le-length (λ x. not (p x)) xs)
