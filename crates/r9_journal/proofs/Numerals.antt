-- What the reader of digits tells of a number without leading zeros.
use Rattle.std.proofs.Common.{◌≡◌, ℕ, zero, suc, ◌+◌, ◌-◌, ◌*◌, ◌<◌, ◌≤◌, ◌^◌, ◌&&◌, true, leb, List, length, get_or, slice_index, inl, inr, Some, None, refl, sym, ap, subst, ◌∙◌, arith}
use Rattle.std.specs.Fmt.{decimal}
use Rattle.std.specs.List.{fold}
use Rattle.std.specs.Str.{all_ascii_digits}
use Rattle.std.specs.Str.Parse.{AllDigits, digits_value}
use Rattle.std.proofs.Math.Nat.{pow-le-pow_right}
use Rattle.std.proofs.lemmas.Bool.{cases_lt, leb-true, le-leb}
use Rattle.std.proofs.lemmas.Fmt.{decimal_digit, decimal-digits_value, digits_decimal, digits_value-decimal, first_decimal, length-decimal-le, decimal_nonempty}
use Rattle.std.proofs.lemmas.Int.Digits.{digits_value-lt}
use Rattle.std.proofs.lemmas.Str.Parse.{IsNumeralModel, numerals_by_fold, tells_all_ascii_digits}
use Rattle.model_text.specs.text.Field.{value, is_digits, number}
use Rattle.model_text.proofs.text.Fields.{want_some}
use Rattle.r9_journal.specs.Reading.{numeral}
use Rattle.r9_journal.proofs.Texts.{both_true, no_numeral, numeral_is, numeral_wide}

numerals : IsNumeralModel (λ ds. all_ascii_digits ds ≡ true) value
numerals = numerals_by_fold _ tells_all_ascii_digits (λ n ds. fold (λ n digit. 10 * n + (digit - 48)) n ds) (record {
  empty = λ n. refl;
  more = λ n c cs k. ap (λ (m : ℕ). fold (λ n digit. 10 * n + (digit - 48)) m cs) (omega arith);
})

-- ---- a number that was read

-- a zero leads other characters
abbrev pub IsLed : List ℕ → Type 0
IsLed word = (1 < length word) × (slice_index word 0 ≡ 48)

alone : (word : List ℕ) → 1 ≤ length word → (IsLed word → ⊥) → slice_index word 0 ≡ 48 → length word ≡ 1
alone word some unled first = elim (cases_lt 1 (length word)) [
  | inl more ↦ absurd (unled (more, first))
  | inr one ↦ omega (arith, one, some)
]

pub read_is : (word : List ℕ) (n : ℕ) → Some n ≡ number 10 word → (IsLed word → ⊥) → (word ≡ decimal n) × (n < 2 ^ 64)
read_is word n e unled =
    let found = want_some (is_digits word && leb (length word) 10) (value word) n (sym e) in
    let tests = both_true (is_digits word) (leb (length word) 10) found.0 in
    let digits = both_true (leb 1 (length word)) (all_ascii_digits word) tests.0 in
    let all : AllDigits 10 word = numerals.to word digits.1 in
    let low : digits_value 10 word < 10 ^ length word = digits_value-lt 10 word all in
    let bound : 10 ^ length word ≤ 10 ^ 10 = pow-le-pow_right (omega arith) (leb-true _ _ tests.1) in
    let small : value word < 2 ^ 64 = omega (arith, low, bound, numerals.same word all) in (
      sym (decimal-digits_value numerals word digits.1 (leb-true _ _ digits.0) (alone word (leb-true _ _ digits.0) unled) small) ∙ ap (λ (m : ℕ). decimal m) found.1,
      omega (arith, found.1, small),
    )

-- ---- what is no number

number_again : (n : ℕ) → n < 2 ^ 32 → number 10 (decimal n) ≡ Some n
number_again n small =
    let fits : n < 2 ^ 64 = omega (arith, small) in
    let some : leb 1 (length (decimal n)) ≡ true = le-leb _ _ (decimal_nonempty n fits) in
    let digits : all_ascii_digits (decimal n) ≡ true = digits_decimal numerals n fits in
    let few : leb (length (decimal n)) 10 ≡ true = le-leb _ _ (length-decimal-le 10 n (omega arith) (omega (arith, small)) fits) in
    let is : value (decimal n) ≡ n = digits_value-decimal numerals n fits in
    rw (some, digits, few, is) refl

pub unread : (word : List ℕ) → None ≡ number 10 word → numeral word ≡ None
unread word e = no_numeral word (λ n small is.
    let found : None ≡ Some n = e ∙ ap (λ (w : List ℕ). number 10 w) is ∙ number_again n small in
    absurd (cc found))

leads : (n : ℕ) → n < 2 ^ 32 → 1 < length (decimal n) → get_or (decimal n) 0 0 ≡ 48 → ⊥
leads zero small long zero_first = omega (arith, long, ap length (decimal_digit 0 (omega arith)))
leads (suc n) small long zero_first = omega (arith, first_decimal (suc n) (omega arith) (omega (arith, small)), zero_first)

-- a zero leads other digits
pub led : (word : List ℕ) → IsLed word → numeral word ≡ None
led word is_led = no_numeral word (λ n small is.
    leads n small (subst (λ (w : List ℕ). 1 < length w) is is_led.0) (subst (λ (w : List ℕ). get_or w 0 0 ≡ 48) is is_led.1))

-- ---- by what was found

pub read_low : (word : List ℕ) (n : ℕ) → Some n ≡ number 10 word → (IsLed word → ⊥) → n < 2 ^ 32 → Some n ≡ numeral word
read_low word n e unled low = sym (numeral_is word n (read_is word n e unled).0 low)

pub read_wide : (word : List ℕ) (n : ℕ) → Some n ≡ number 10 word → (IsLed word → ⊥) → 2 ^ 32 ≤ n → None ≡ numeral word
read_wide word n e unled wide = let is = read_is word n e unled in sym (numeral_wide word n is.0 is.1 wide)
