-- The numbers of a line are read from their decimals.
use Rattle.std.proofs.Common.{◌≡◌, ◌∙◌, ℕ, zero, suc, ◌+◌, ◌-◌, ◌*◌, ◌<◌, ◌^◌, ◌&&◌, ◌==◌, Bool, true, false, ltb, leb, List, [], ◌∷◌, length, slice_index, Option, Some, refl, ap, arith}
use Rattle.std.specs.Prelude.{map, not}
use Rattle.std.specs.Char.{is_ascii_digit}
use Rattle.std.specs.Fmt.{decimal}
use Rattle.std.specs.List.{fold, list_all, AllByRecursion}
use Rattle.std.specs.Str.{all_ascii_digits}
use Rattle.std.proofs.lemmas.Bool.{and_from, and_left, and_parts, and_right, le-leb, le-ltb, leb-true, ne_eqb, not_from_false}
use Rattle.std.proofs.lemmas.Fmt.{decimal_digit, decimal_nonempty, digits_decimal, digits_value-decimal, first_decimal, length-decimal-le}
use Rattle.std.proofs.lemmas.Str.Parse.{IsNumeralModel, numerals_by_fold, tells_all_ascii_digits}
use Rattle.model_text.specs.text.Field.{value}
use Rattle.model_text.specs.text.Reading.{◌>>=◌}
use Rattle.model_client.specs.mirror.Lines.{numbers, plain}

numerals : IsNumeralModel (λ ds. all_ascii_digits ds ≡ true) value
numerals = numerals_by_fold _ tells_all_ascii_digits (λ n ds. fold (λ n digit. 10 * n + (digit - 48)) n ds) (record {
  empty = λ n. refl;
  more = λ n c cs k. ap (λ (m : ℕ). fold (λ n digit. 10 * n + (digit - 48)) m cs) (omega arith);
})

-- the numbers that a line can tell
abbrev pub AreShort : List ℕ → Type 0
AreShort ns = AllByRecursion (λ n. n < 10 ^ 18) ns

fits : (n : ℕ) → n < 10 ^ 18 → n < 2 ^ 64
fits n short = omega (arith, short)

digits : (n : ℕ) → n < 10 ^ 18 → all_ascii_digits (decimal n) ≡ true
digits n short = digits_decimal numerals n (fits n short)

-- no zero leads
unled : (n : ℕ) → n < 10 ^ 18 → (ltb 1 (length (decimal n)) && (slice_index (decimal n) 0 == 48)) ≡ false
unled zero short = and_left (ltb 1 (length (decimal 0))) _ (le-ltb 1 (length (decimal 0)) (omega (arith, ap length (decimal_digit 0 (omega arith)))))
unled (suc n) short =
    let first = first_decimal (suc n) (omega arith) (fits (suc n) short) in
    and_right (ltb 1 (length (decimal (suc n)))) _ (ne_eqb (slice_index (decimal (suc n)) 0) 48 (λ e. omega (arith, e, first)))

plain_decimal : (n : ℕ) → n < 10 ^ 18 → plain (decimal n) ≡ Some n
plain_decimal n short =
    let some : leb 1 (length (decimal n)) ≡ true = le-leb _ _ (decimal_nonempty n (fits n short)) in
    let all : all_ascii_digits (decimal n) ≡ true = digits n short in
    let few : leb (length (decimal n)) 18 ≡ true = le-leb _ _ (length-decimal-le 18 n (omega arith) short (fits n short)) in
    let is : value (decimal n) ≡ n = digits_value-decimal numerals n (fits n short) in
    rw (unled n short, some, all, few, is) refl

pub numbers_again : (ns : List ℕ) → AreShort ns → numbers (map decimal ns) ≡ Some ns
numbers_again [] short = refl
numbers_again (n ∷ ns) short =
    ap (λ (o : Option ℕ). o >>= λ (m : ℕ). numbers (map decimal ns) >>= λ (rest : List ℕ). Some (m ∷ rest)) (plain_decimal n short.0)
    ∙ ap (λ (o : Option (List ℕ)). o >>= λ (rest : List ℕ). Some (n ∷ rest)) (numbers_again ns short.1)

-- what is made of a line's numbers, where they are these
pub made_of : {A : Type 0} (o : Option (List ℕ)) (ns : List ℕ) (f : List ℕ → Option A) → o ≡ Some ns → (o >>= f) ≡ f ns
made_of o ns f e = ap (λ (p : Option (List ℕ)). p >>= f) e

-- ---- the bytes of a decimal

-- whether a byte is none of those
abbrev pub unlike : ℕ → ℕ → Bool
unlike byte other = not (other == byte)

digit_unlike : (byte c : ℕ) → byte < 48 → is_ascii_digit c ≡ true → unlike byte c ≡ true
digit_unlike byte c low digit = not_from_false (c == byte) (ne_eqb c byte (λ e. omega (arith, e, low, leb-true 48 c (and_parts (leb 48 c) (leb c 57) digit).0)))

digits_unlike : (byte : ℕ) (ds : List ℕ) → byte < 48 → all_ascii_digits ds ≡ true → list_all (unlike byte) ds ≡ true
digits_unlike byte [] low h = refl
digits_unlike byte (d ∷ ds) low h =
    let parts = and_parts (is_ascii_digit d) (all_ascii_digits ds) h in
    and_from (unlike byte d) (list_all (unlike byte) ds) (digit_unlike byte d low parts.0) (digits_unlike byte ds low parts.1)

-- no byte below the digits is among them
pub decimal_unlike : (byte n : ℕ) → byte < 48 → n < 10 ^ 18 → list_all (unlike byte) (decimal n) ≡ true
decimal_unlike byte n low short = digits_unlike byte (decimal n) low (digits n short)
