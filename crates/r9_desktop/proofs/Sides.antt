-- How far one coordinate is above another.
use Rattle.std.proofs.Common.{◌≡◌, ◌≤◌, ℕ, ℤ, pos, negsuc, ◌-ℤ◌, arith}
use Rattle.std.specs.Prelude.{◌^◌, ◌≤ℤ◌, neg_ℤ}
use Rattle.std.proofs.lemmas.Int.{ints}
use Rattle.r9_geom.specs.Geometry.{distance, natural}

natural_most : (z : ℤ) (n : ℕ) → z ≤ℤ pos n → natural z ≤ n
natural_most (pos m) n h = omega (arith, ints)
natural_most (negsuc m) n h = omega arith

pub distance_none : (a b : ℤ) → b ≤ℤ a → distance a b ≡ 0
distance_none a b h = let most = natural_most (b -ℤ a) 0 (omega (arith, ints)) in omega arith

pub distance_most : (a b : ℤ) → neg_ℤ (pos (2 ^ 33)) ≤ℤ a → b ≤ℤ pos (2 ^ 33) → distance a b ≤ 2 ^ 34
distance_most a b low high = natural_most (b -ℤ a) (2 ^ 34) (omega (arith, ints))
