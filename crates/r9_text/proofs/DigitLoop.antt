-- The number of digits, one after the other, as a loop reads them.
use Rattle.std.proofs.Common.{◌≡◌, ℕ, suc, ◌+◌, ◌-◌, ◌*◌, ◌<◌, ◌≤◌, ◌^◌, List, drop, arith}
use Rattle.std.proofs.Math.Nat.{pow-le-pow_right, pow-suc}
use Rattle.std.specs.List.{fold}
use Rattle.std.specs.Str.{all_ascii_digits}
use Rattle.model_text.specs.text.Field.{value}

-- what the digits before a place spell, and what those behind it make of it
pub record IsSoFar (word : List ℕ) (at number : ℕ) : Type 0 where
  pub small : number < 10 ^ at
  pub all : all_ascii_digits (drop at word) ≡ all_ascii_digits word
  pub spelled : fold (λ n digit. 10 * n + (digit - 48)) number (drop at word) ≡ value word

-- a number of at most 18 digits
pub below : (at number : ℕ) → number < 10 ^ at → at ≤ 18 → number < 2 ^ 63
below at number small few = let bound : 10 ^ at ≤ 10 ^ 18 = pow-le-pow_right (omega arith) few in omega arith

-- one more digit
pub more : (at number digit : ℕ) → number < 10 ^ at → at < 18 → digit < 10 → 10 * number + digit < 2 ^ 63
more at number digit small few lt =
    let bound : 10 ^ suc at ≤ 10 ^ 18 = pow-le-pow_right (omega arith) few in
    let step : 10 ^ suc at ≡ 10 ^ at * 10 = pow-suc 10 at in
    omega arith
