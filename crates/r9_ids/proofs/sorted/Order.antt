-- The order of keys.
use Rattle.std.proofs.Common.{◌≡◌, ℕ, true, false, arith}
use Rattle.std.specs.Prelude.{◌==◌, ◌&&◌, ◌||◌, nat_lt}
use Rattle.std.proofs.lemmas.Bool.Decides.{nat_tests}
use Rattle.r9_ids.specs.declared.sorted.key.Key.{Key}
use Rattle.r9_ids.specs.sorted.Order.{key, comes_before, is_key}

pub before-trans : (a b c : Key) → comes_before a b ≡ true → comes_before b c ≡ true → comes_before a c ≡ true
unfolding comes_before
before-trans a b c h k = grind (arith, nat_tests)

pub before-other : (a b : Key) → comes_before a b ≡ true → is_key a b ≡ false
unfolding comes_before is_key
before-other a b h = grind (arith, nat_tests)

pub after-other : (a b : Key) → comes_before b a ≡ true → is_key a b ≡ false
unfolding comes_before is_key
after-other a b h = grind (arith, nat_tests)

pub not-both : (a b : Key) → comes_before a b ≡ true → comes_before b a ≡ false
unfolding comes_before
not-both a b h = grind (arith, nat_tests)

pub one-of-three : (a b : Key) → comes_before a b ≡ false → is_key a b ≡ false → comes_before b a ≡ true
unfolding comes_before is_key
one-of-three a b h k = grind (arith, nat_tests)

first-is : (a b : Key) → is_key a b ≡ true → a.first ≡ b.first
unfolding is_key
first-is a b h = grind (arith, nat_tests)

second-is : (a b : Key) → is_key a b ≡ true → a.second ≡ b.second
unfolding is_key
second-is a b h = grind (arith, nat_tests)

third-is : (a b : Key) → is_key a b ≡ true → a.third ≡ b.third
unfolding is_key
third-is a b h = grind (arith, nat_tests)

pub is-same : (a b : Key) → is_key a b ≡ true → a ≡ b
is-same a b h = λ i. record { first = first-is a b h i; second = second-is a b h i; third = third-is a b h i }

pub same-is : (a : Key) → is_key a a ≡ true
unfolding is_key
same-is a = grind (arith, nat_tests)

-- keys of two numbers and of one

pub pair-before : (a b c d : ℕ) → comes_before (key a b 0) (key c d 0) ≡ (nat_lt a c || ((a == c) && nat_lt b d))
unfolding comes_before
pair-before a b c d = grind (arith, nat_tests)

pub pair-is : (a b c d : ℕ) → is_key (key a b 0) (key c d 0) ≡ ((a == c) && (b == d))
unfolding is_key
pair-is a b c d = grind (arith, nat_tests)

pub one-before : (a b : ℕ) → comes_before (key a 0 0) (key b 0 0) ≡ nat_lt a b
unfolding comes_before
one-before a b = grind (arith, nat_tests)

pub one-is : (a b : ℕ) → is_key (key a 0 0) (key b 0 0) ≡ (a == b)
unfolding is_key
one-is a b = grind (arith, nat_tests)
