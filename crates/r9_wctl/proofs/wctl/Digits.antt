-- How large a number of so many digits is.
use Rattle.std.proofs.Common.{◌≡◌, ℕ, suc, ◌+◌, ◌-◌, ◌*◌, ◌^◌, ◌<◌, ◌≤◌, Bool, true, false, cond, ◌&&◌, List, [], ◌∷◌, length, Some, None, refl, sym, subst, arith, nat_le}
use Rattle.std.proofs.lemmas.Bool.{leb-true}
use Rattle.std.proofs.Math.Nat.{pow-suc, pow-le-pow_right}
use Rattle.std.specs.List.{fold}
use Rattle.std.specs.Str.{all_ascii_digits}
use Rattle.std.specs.Char.{is_ascii_digit}
use Rattle.model_text.specs.text.Field.{value, is_digits, number}

both : (a b : Bool) → (a && b) ≡ true → (a ≡ true) × (b ≡ true)
both true b e = (refl, e)
both false b e = absurd cc

digit_le : (d : ℕ) → is_ascii_digit d ≡ true → d ≤ 57
digit_le d e = leb-true d 57 (both (nat_le 48 d) (nat_le d 57) e).1

abbrev step : ℕ → ℕ → ℕ
step n digit = 10 * n + (digit - 48)

grows : (word : List ℕ) (n k : ℕ) → all_ascii_digits word ≡ true → n < 10 ^ k → fold step n word < 10 ^ (k + length word)
grows [] n k digits small = subst (λ (e : ℕ). n < 10 ^ e) (let same : k ≡ k + 0 = omega arith in same) small
grows (d ∷ word) n k digits small =
    let parts = both (is_ascii_digit d) (all_ascii_digits word) digits in
    let le : d ≤ 57 = digit_le d parts.0 in
    let power : 10 ^ suc k ≡ 10 ^ k * 10 = pow-suc 10 k in
    let more : 10 * n + (d - 48) < 10 ^ suc k = omega arith in
    subst (λ (e : ℕ). fold step (10 * n + (d - 48)) word < 10 ^ e) (let same : suc k + length word ≡ k + suc (length word) = omega arith in same) (grows word (10 * n + (d - 48)) (suc k) parts.1 more)

below : (most : ℕ) (word : List ℕ) (n : ℕ) → number most word ≡ Some n → n < 10 ^ most
below most word n e = by_test (is_digits word && nat_le (length word) most) refl e
  where
    by_test : (b : Bool) → b ≡ (is_digits word && nat_le (length word) most) → cond b (Some (value word)) None ≡ Some n → n < 10 ^ most
    by_test true is given =
        let tests = both (is_digits word) (nat_le (length word) most) (sym is) in
        let all = (both (nat_le 1 (length word)) (all_ascii_digits word) tests.0).1 in
        let short : length word ≤ most = leb-true (length word) most tests.1 in
        let bound : value word < 10 ^ (0 + length word) = grows word 0 0 all (omega arith) in
        let same : value word ≡ n = cc in
        let wider : 10 ^ (0 + length word) ≤ 10 ^ most = pow-le-pow_right (omega arith) (omega arith) in
        omega arith
    by_test false is given = absurd cc

-- a number of at most 9 digits
pub fits : (most : ℕ) (word : List ℕ) (n : ℕ) → most ≤ 9 → number most word ≡ Some n → (n < 10 ^ most) × (n < 2 ^ 32)
fits most word n few e =
    let small = below most word n e in
    let wider : 10 ^ most ≤ 10 ^ 9 = pow-le-pow_right (omega arith) few in
    (small, omega arith)
