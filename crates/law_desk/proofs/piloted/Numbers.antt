-- The decimal numbers of commands are read back (rio(4)).
use Rattle.std.proofs.Common.{◌≡◌, ◌∙◌, ◌<◌, ◌≤◌, ◌+◌, ◌-◌, ◌*◌, ◌/◌, ◌%◌, ◌^◌, ℕ, ℤ, pos, negsuc, ◌+ℤ◌, ◌-ℤ◌, suc, true, false, ◌==◌, List, [], ◌∷◌, ◌++◌, length, get_or, Some, refl, arith, div-add-mod'}
use Rattle.std.specs.Prelude.{int_lt}
use Rattle.std.specs.Fmt.{decimal}
use Rattle.std.specs.List.{All}
use Rattle.std.specs.Str.{all_ascii_digits}
use Rattle.std.proofs.lemmas.Bool.{and_from, le-leb, ne_eqb}
use Rattle.std.proofs.lemmas.Int.{ints}
use Rattle.std.proofs.lemmas.Fmt.{decimal_by_steps, decimal_nonempty, length-decimal-le}
use Rattle.std.proofs.lemmas.List.Elements.{All-cons, All-head, All-nil, All-push, All-tail}
use Rattle.std.proofs.lemmas.List.Splits.{slice_split_none}
use Rattle.std.proofs.lemmas.List.Sums.{fold_push}
use Rattle.std.proofs.lemmas.Nat.{mod_below}
use Rattle.model_text.specs.text.Field.{number, value}
use Rattle.model_files.specs.declared.wctl.Amount.{Amount}
use Rattle.model_files.specs.declared.wctl.Amount.TheVariants.{Minus, Plus}
use Rattle.model_files.specs.wctl.Rectangle.{given}
use Rattle.model_files.specs.wctl.Words.{amount, path}
use Rattle.model_client.specs.desk.Spelled.{change}
use Rattle.law_text.proofs.client.Numbers.{IsDigit}

pub record IsNumber (n : ℕ) (digits : List ℕ) : Type 0 where
  pub are : All IsDigit digits
  pub is : value digits ≡ n

pub decimal_is : (n : ℕ) → n < 2 ^ 64 → IsNumber n (decimal n)
decimal_is n small = decimal_by_steps IsNumber one more n small
  where
    one : (n : ℕ) → n < 10 → IsNumber n ((48 + n) ∷ [])
    one n lt = record { are = All-cons IsDigit (48 + n) [] (omega arith, omega (arith, lt)) (All-nil IsDigit); is = omega arith }

    more : (n : ℕ) (digits : List ℕ) → 10 ≤ n → IsNumber (n / 10) digits → IsNumber n (digits ++ (48 + n % 10) ∷ [])
    more n digits ge number =
        let last : n % 10 < 10 = mod_below n 10 (omega arith) in
        let were = number.is in
        let parts : n / 10 * 10 + n % 10 ≡ n = div-add-mod' n 10 in
        record {
          are = All-push IsDigit digits (48 + n % 10) number.are (omega arith, omega (arith, last));
          is = fold_push (λ m digit. 10 * m + (digit - 48)) 0 digits (48 + n % 10) ∙ omega (arith, were, parts);
        }

pub all_digits : (digits : List ℕ) → All IsDigit digits → all_ascii_digits digits ≡ true
all_digits [] are = refl
all_digits (digit ∷ digits) are =
    let first = All-head IsDigit digit digits are in
    and_from _ _ (and_from _ _ (le-leb 48 digit first.0) (le-leb digit 57 first.1)) (all_digits digits (All-tail IsDigit digit digits are))

-- a number of so many digits at most
number_of : (most n : ℕ) (digits : List ℕ) → IsNumber n digits → 0 < length digits → length digits ≤ most → number most digits ≡ Some n
number_of most n digits is some few = rw (le-leb 1 (length digits) (omega (arith, some)), all_digits digits is.are, le-leb (length digits) most few, is.is) refl

pub number_again : (most n : ℕ) → 1 ≤ most → n < 10 ^ most → n < 2 ^ 64 → number most (decimal n) ≡ Some n
number_again most n one small fits = number_of most n (decimal n) (decimal_is n fits) (decimal_nonempty n fits) (length-decimal-le most n one small fits)

-- the path of a window of the root rio
pub path_again : (n : ℕ) → n < 10 ^ 9 → path (decimal n) ≡ Some (n ∷ [])
path_again n small =
    let fits : n < 2 ^ 64 = omega (arith, small) in
    let plain : All (λ byte. (byte == 47) ≡ false) (decimal n) = λ k d lt. let digit = (decimal_is n fits).are k d lt in ne_eqb (get_or (decimal n) k d) 47 (λ e. omega (arith, e, digit.0)) in
    rw (slice_split_none (λ byte. byte == 47) (decimal n) plain, number_again 9 n (omega arith) small fits) refl

-- a signed change
pub record IsChange (dx : ℤ) : Type 0 where
  pub by : Amount
  pub is : amount (change dx) ≡ Some by
  pub gives : (x : ℤ) → given x by ≡ x +ℤ dx

not_negative : (n : ℕ) → int_lt (pos n) (pos 0) ≡ false
not_negative n = grind (arith, ints)

pub more_again : (n : ℕ) → n < 10 ^ 7 → IsChange (pos n)
more_again n small = record {
  by = Plus (pos n);
  is = rw (not_negative n, number_again 7 n (omega arith) small (omega (arith, small))) refl;
  gives = λ x. refl;
}

less : (x : ℤ) (n : ℕ) → x -ℤ pos (suc n) ≡ x +ℤ negsuc n
less x n = omega (arith, ints)

pub less_again : (n : ℕ) → suc n < 10 ^ 7 → IsChange (negsuc n)
less_again n small = record {
  by = Minus (pos (suc n));
  is = rw (number_again 7 (suc n) (omega arith) small (omega (arith, small))) refl;
  gives = λ x. less x n;
}
