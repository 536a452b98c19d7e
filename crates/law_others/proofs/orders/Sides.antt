-- The sides that a text spells are those of a display: 1 to 2,048 each.
use Rattle.std.proofs.Common.{◌≡◌, ◌≤◌, ◌+◌, ◌*◌, ◌-◌, ℕ, Bool, true, false, List, [], ◌∷◌, drop, length, position, take, Option, Some, None, refl, subst, arith}
use Rattle.std.specs.Prelude.{◌==◌, ◌||◌, ◌&&◌, nat_le, nat_lt, if◌then◌else◌}
use Rattle.std.specs.List.{fold}
use Rattle.std.specs.Str.{all_ascii_digits}
use Rattle.std.specs.Char.{is_ascii_digit}
use Rattle.std.proofs.lemmas.Bool.Decides.{nat_tests}
use Rattle.model_text.specs.text.Field.{is_digits, number, value}
use Rattle.model_text.specs.text.Reading.{◌>>=◌}
use Rattle.model_history.specs.declared.words.Size.{Size}
use Rattle.model_history.specs.words.Values.{begins_with_zero, counted, sides_of}
use Rattle.model_draw.specs.draw.Orders.{is_side}
use Rattle.law_shown.proofs.shown.Tests.{first_false, second_false, split}

-- what is told where something is given
given : {A B : Type 0} (o : Option A) (next : A → Option B) (y : B) → (o >>= next) ≡ Some y → (x : A) × (o ≡ Some x) × (next x ≡ Some y)
given None next y e = absurd cc
given (Some x) next y e = (x, refl, e)

given_if : {A : Type 0} (b : Bool) (x y : A) → (if b then Some x else None) ≡ Some y → (b ≡ true) × (x ≡ y)
given_if true x y e = (refl, cc)
given_if false x y e = absurd cc

given_unless : {A : Type 0} (b : Bool) (x y : A) → (if b then None else Some x) ≡ Some y → (b ≡ false) × (x ≡ y)
given_unless true x y e = absurd cc
given_unless false x y e = (refl, cc)

-- more digits give no lower number
no_lower : (digits : List ℕ) (n : ℕ) → n ≤ fold (λ n digit. 10 * n + (digit - 48)) n digits
no_lower [] n = omega arith
no_lower (d ∷ digits) n = let more = no_lower digits (10 * n + (d - 48)) in omega (arith, more)

-- the first digit is not 0
digit_counts : (d : ℕ) → is_ascii_digit d ≡ true → (d == 48) ≡ false → 1 ≤ 10 * 0 + (d - 48)
digit_counts d digit other = grind (arith, nat_tests)

digits_count : (text : List ℕ) → is_digits text ≡ true → begins_with_zero text ≡ false → 1 ≤ value text
digits_count [] digits other = absurd cc
digits_count (d ∷ text) digits other =
    let all = (split (nat_le 1 (length (d ∷ text))) (all_ascii_digits (d ∷ text)) digits).1 in
    let one = digit_counts d (split (is_ascii_digit d) (all_ascii_digits text) all).0 other in
    let more = no_lower text (10 * 0 + (d - 48)) in
    omega (arith, one, more)

fits_side : (n : ℕ) → 1 ≤ n → nat_lt 2048 n ≡ false → is_side n ≡ true
fits_side n some few = grind (arith, nat_tests)

counted_side : (text : List ℕ) (n : ℕ) → counted 2048 text ≡ Some n → is_side n ≡ true
counted_side text n e =
    let one = given (number 10 text) (λ v. if begins_with_zero text || nat_lt 2048 v then None else Some v) n e in
    let digits = given_if (is_digits text && nat_le (length text) 10) (value text) one.0 one.1 in
    let few = given_unless (begins_with_zero text || nat_lt 2048 one.0) one.0 n one.2 in
    let some = digits_count text (split (is_digits text) (nat_le (length text) 10) digits.0).0 (first_false (begins_with_zero text) (nat_lt 2048 one.0) few.0) in
    subst (λ (m : ℕ). is_side m ≡ true) few.1
    (fits_side one.0 (subst (λ (m : ℕ). 1 ≤ m) digits.1 some) (second_false (begins_with_zero text) (nat_lt 2048 one.0) few.0))

sides_are : (w h : ℕ) (size : Size) → (let made : Size = record { width = w; height = h } in Some made) ≡ Some size → is_side w ≡ true → is_side h ≡ true → (is_side size.width ≡ true) × (is_side size.height ≡ true)
sides_are w h size e wide high =
    let made : Size = record { width = w; height = h } in
    let same : made ≡ size = cc in (subst (λ (s : Size). is_side s.width ≡ true) same wide, subst (λ (s : Size). is_side s.height ≡ true) same high)

-- the sides of a text are spelled as an act has them
pub sides_spelled : (text : List ℕ) (size : Size) → sides_of text ≡ Some size → (is_side size.width ≡ true) × (is_side size.height ≡ true)
sides_spelled text size e =
    let made : ℕ → ℕ → Size = λ w h. record { width = w; height = h } in
    let at = given (position (λ byte. byte == 120) text) (λ n. counted 2048 (take n text) >>= λ w. counted 2048 (drop (n + 1) text) >>= λ h. Some (made w h)) size e in
    let width = given (counted 2048 (take at.0 text)) (λ w. counted 2048 (drop (at.0 + 1) text) >>= λ h. Some (made w h)) size at.2 in
    let height = given (counted 2048 (drop (at.0 + 1) text)) (λ h. Some (made width.0 h)) size width.2 in
    sides_are width.0 height.0 size height.2 (counted_side (take at.0 text) width.0 width.1) (counted_side (drop (at.0 + 1) text) height.0 height.1)
