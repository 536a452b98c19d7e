-- The decimal numbers in commands are read back (rio(4)).
use Rattle.std.proofs.Common.{◌≡◌, ◌∙◌, ◌<◌, ◌≤◌, ◌+◌, ◌-◌, ◌*◌, ◌/◌, ◌%◌, ◌^◌, ℕ, pos, true, false, eqb, List, [], ◌∷◌, ◌++◌, length, get_or, Some, refl, arith, div-add-mod'}
use Rattle.std.specs.Fmt.{decimal}
use Rattle.std.specs.List.{All, list_any}
use Rattle.std.specs.Str.{all_ascii_digits}
use Rattle.std.proofs.lemmas.Bool.{and_from, le-leb, ne_eqb, or_from}
use Rattle.std.proofs.lemmas.Fmt.{decimal_by_steps, decimal_nonempty, length-decimal-le}
use Rattle.std.proofs.lemmas.List.Elements.{All-cons, All-head, All-nil, All-push, All-tail}
use Rattle.std.proofs.lemmas.List.Folds.{list_any_none}
use Rattle.std.proofs.lemmas.List.Sums.{fold_push}
use Rattle.std.proofs.lemmas.Nat.{mod_below}
use Rattle.model_text.specs.text.Field.{number, value}
use Rattle.model_text.specs.text.Word.{is_blank}
use Rattle.model_files.specs.wctl.Words.{is_newline, signed}

abbrev pub IsDigit : ℕ → Type 0
IsDigit byte = (48 ≤ byte) × (byte ≤ 57)

-- the digits of a number
record IsNumber (n : ℕ) (digits : List ℕ) : Type 0 where
  are : All IsDigit digits
  is : value digits ≡ n

decimal_is : (n : ℕ) → n < 2 ^ 64 → IsNumber n (decimal n)
decimal_is n small = decimal_by_steps IsNumber one more n small
  where
    one : (n : ℕ) → n < 10 → IsNumber n ((48 + n) ∷ [])
    one n lt = record { are = All-cons IsDigit (48 + n) [] (omega arith, omega (arith, lt)) (All-nil IsDigit); is = omega arith }

    more : (n : ℕ) (digits : List ℕ) → 10 ≤ n → IsNumber (n / 10) digits → IsNumber n (digits ++ (48 + n % 10) ∷ [])
    more n digits ge number =
        let last : n % 10 < 10 = mod_below n 10 (omega arith) in
        let were = number.is in
        let parts : n / 10 * 10 + n % 10 ≡ n = div-add-mod' n 10 in
        record {
          are = All-push IsDigit digits (48 + n % 10) number.are (omega arith, omega (arith, last));
          is = fold_push (λ m digit. 10 * m + (digit - 48)) 0 digits (48 + n % 10) ∙ omega (arith, were, parts);
        }

all_digits : (digits : List ℕ) → All IsDigit digits → all_ascii_digits digits ≡ true
all_digits [] are = refl
all_digits (digit ∷ digits) are =
    let first = All-head IsDigit digit digits are in
    and_from _ _ (and_from _ _ (le-leb 48 digit first.0) (le-leb digit 57 first.1)) (all_digits digits (All-tail IsDigit digit digits are))

signed_digits : (n : ℕ) (digits : List ℕ) → IsNumber n digits → 0 < length digits → length digits ≤ 7 → signed digits ≡ Some (pos n)
signed_digits n [] number some few = absurd (omega (arith, some))
signed_digits n (digit ∷ digits) number some few =
    let first = All-head IsDigit digit digits number.are in
    let no_minus : eqb digit 45 ≡ false = ne_eqb digit 45 (λ e. omega (arith, e, first.0)) in
    rw (no_minus, le-leb 1 (length (digit ∷ digits)) (omega (arith, some)), all_digits (digit ∷ digits) number.are, le-leb (length (digit ∷ digits)) 7 few, number.is) refl

-- a number in a command
pub signed_decimal_is : (n : ℕ) → n < 10 ^ 7 → signed (decimal n) ≡ Some (pos n)
signed_decimal_is n small =
    let fits : n < 2 ^ 64 = omega (arith, small) in
    signed_digits n (decimal n) (decimal_is n fits) (decimal_nonempty n fits) (length-decimal-le 7 n (omega arith) small fits)

-- which is no blank, and no newline
pub no_blank : (n : ℕ) → n < 2 ^ 64 → All (λ byte. is_blank byte ≡ false) (decimal n)
no_blank n small k d lt =
    let digit = (decimal_is n small).are k d lt in
    or_from _ _ (ne_eqb (get_or (decimal n) k d) 32 (λ e. omega (arith, e, digit.0))) (ne_eqb (get_or (decimal n) k d) 9 (λ e. omega (arith, e, digit.0)))

pub no_newline : (n : ℕ) → n < 2 ^ 64 → list_any is_newline (decimal n) ≡ false
no_newline n small = list_any_none is_newline (decimal n) (λ k d lt. let digit = (decimal_is n small).are k d lt in ne_eqb (get_or (decimal n) k d) 10 (λ e. omega (arith, e, digit.0)))
