-- Which numbers have at most 11 characters.
use Rattle.std.proofs.Common.{ℤ, pos, negsuc, neg_ℤ, ◌≤ℤ◌, ◌≤◌, suc, length, arith}
use Rattle.std.proofs.lemmas.Int.{ints}
use Rattle.std.specs.Fmt.{decimal, signed_decimal}
use Rattle.std.proofs.lemmas.Fmt.{length-decimal-le}

pub signed_decimal-short : (n : ℤ) → neg_ℤ (pos 9_999_999_999) ≤ℤ n → n ≤ℤ pos 99_999_999_999 → length (signed_decimal n) ≤ 11
signed_decimal-short (pos n) low high = let small : n ≤ 99_999_999_999 = omega (arith, ints) in length-decimal-le 11 n (omega arith) (omega arith) (omega arith)
signed_decimal-short (negsuc n) low high =
    let small : suc n ≤ 9_999_999_999 = omega (arith, ints) in
    let digits : length (decimal (suc n)) ≤ 10 = length-decimal-le 10 (suc n) (omega arith) (omega arith) (omega arith) in
    omega arith
