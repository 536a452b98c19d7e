-- How long the text of an event is.
use Rattle.std.proofs.Common.{◌≡◌, ℕ, ℤ, pos, negsuc, neg_ℤ, ◌≤ℤ◌, suc, ◌+◌, ◌≤◌, ◌++◌, ◌∷◌, [], length, replicate, ◌-◌, List, arith, ap}
use Rattle.std.proofs.lemmas.Int.{ints}
use Rattle.std.specs.Fmt.{decimal, signed_decimal}
use Rattle.std.proofs.lemmas.Fmt.{length-decimal-le}
use Rattle.std.proofs.lemmas.List.{length-append, length-replicate}
use Rattle.model_text.specs.text.Field.{field, number_field}

field-len : (w : List ℕ) → length w ≤ 11 → length (field w) ≡ 12
unfolding field
field-len w short =
    let blanks : List ℕ = replicate (11 - length w) 32 in
    omega (arith, length-append (blanks ++ w) (32 ∷ []), length-append blanks w, length-replicate {A = ℕ} (11 - length w) 32)

digits-len : (n : ℤ) → neg_ℤ (pos 9_999_999_999) ≤ℤ n → n ≤ℤ pos 99_999_999_999 → length (signed_decimal n) ≤ 11
digits-len (pos n) low high = let small : n ≤ 99_999_999_999 = omega (arith, ints) in length-decimal-le 11 n (omega arith) (omega arith) (omega arith)
digits-len (negsuc n) low high =
    let small : suc n ≤ 9_999_999_999 = omega (arith, ints) in
    let digits : length (decimal (suc n)) ≤ 10 = length-decimal-le 10 (suc n) (omega arith) (omega arith) (omega arith) in
    omega arith

-- a number more makes it 12 bytes longer
pub longer : (before after : List ℕ) (n : ℤ) → neg_ℤ (pos 9_999_999_999) ≤ℤ n → n ≤ℤ pos 99_999_999_999 → after ≡ before ++ number_field n → length after ≡ length before + 12
longer before after n low high is =
    omega (arith, ap length is, length-append before (number_field n), field-len (signed_decimal n) (digits-len n low high))
