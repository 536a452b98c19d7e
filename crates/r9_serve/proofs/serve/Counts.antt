-- A count in words is from 1 to its most, as are the sides of a display.
use Rattle.std.proofs.Common.{◌≡◌, ◌≤◌, ◌+◌, ◌-◌, ◌*◌, ◌==◌, ◌&&◌, ◌||◌, ℕ, Bool, true, false, refl, subst, List, [], ◌∷◌, codes, length, Some, None, cond, arith}
use Rattle.std.specs.Prelude.{nat_le, nat_lt}
use Rattle.std.specs.List.{fold}
use Rattle.std.specs.Char.{is_ascii_digit}
use Rattle.std.specs.Str.{all_ascii_digits}
use Rattle.std.proofs.lemmas.Bool.{eqb-false, leb-true, leb-false}
use Rattle.model_text.specs.text.Field.{is_digits, value}
use Rattle.model_text.specs.text.Reading.{◌>>=◌}
use Rattle.r9_event.specs.declared.event.event.Opening.{Opening}
use Rattle.model_history.specs.words.Options.{or, value_of}
use Rattle.model_history.specs.words.Values.{counted}
use Rattle.model_history.specs.words.Commands.{AsksForMirror, AsksForText, AsksToServe}
use Rattle.model_draw.specs.draw.Orders.{is_side}
use Rattle.law_others.proofs.orders.Sides.{sides_spelled}
use Rattle.r9_opts.proofs.Options.{none_some, some_inj}

both : (p q : Bool) → (p && q) ≡ true → (p ≡ true) × (q ≡ true)
both true q is = (refl, is)
both false q is = absurd (cc is)

grown : (n : ℕ) (digits : List ℕ) → 1 ≤ n → 1 ≤ fold (λ m digit. 10 * m + (digit - 48)) n digits
grown n [] is = is
grown n (digit ∷ digits) is = grown (10 * n + (digit - 48)) digits (omega (arith, is))

reads : (most : ℕ) (digits short zero : Bool) (v n : ℕ) → ((cond (digits && short) (Some v) None) >>= λ m. cond (zero || nat_lt most m) None (Some m)) ≡ Some n
    → (digits ≡ true) × (zero ≡ false) × (nat_lt most v ≡ false) × (v ≡ n)
reads most false short zero v n is = none_some n is
reads most true false zero v n is = none_some n is
reads most true true true v n is = none_some n is
reads most true true false v n is = by (nat_lt most v) refl is
  where
    by : (b : Bool) → nat_lt most v ≡ b → cond b None (Some v) ≡ Some n → (true ≡ true) × (false ≡ false) × (nat_lt most v ≡ false) × (v ≡ n)
    by true at none = none_some n none
    by false at some = (refl, refl, at, some_inj some)

not_below : (m v : ℕ) → nat_lt m v ≡ false → v ≤ m
not_below m v at = let lower = leb-false _ _ at in omega (arith, lower)

pub counts : (most : ℕ) (text : List ℕ) (n : ℕ) → counted most text ≡ Some n → (1 ≤ n) × (n ≤ most)
counts most [] n is = none_some n is
counts most (byte ∷ bytes) n is =
    let read = reads most (is_digits (byte ∷ bytes)) (nat_le (length (byte ∷ bytes)) 10) (byte == 48) (value (byte ∷ bytes)) n is in
    let digits = both (nat_le 1 (length (byte ∷ bytes))) (all_ascii_digits (byte ∷ bytes)) read.0 in
    let digit = both (is_ascii_digit byte) (all_ascii_digits bytes) digits.1 in
    let low = both (nat_le 48 byte) (nat_le byte 57) digit.0 in
    let from : 48 ≤ byte = leb-true 48 byte low.0 in
    let other : byte ≡ 48 → ⊥ = eqb-false byte 48 read.1 in
    let first : 1 ≤ 10 * 0 + (byte - 48) = omega (arith, from, other) in
    let least : 1 ≤ value (byte ∷ bytes) = grown (10 * 0 + (byte - 48)) bytes first in
    let upper : value (byte ∷ bytes) ≤ most = not_below most (value (byte ∷ bytes)) read.2 in
    (subst (λ (v : ℕ). 1 ≤ v) read.3 least, subst (λ (v : ℕ). v ≤ most) read.3 upper)

-- words that ask to serve name 1 to 16 workers
pub workers_within : (words : List (List ℕ)) (opening : Opening) (listen : List ℕ) (workers conns : ℕ) → AsksToServe words opening listen workers conns → (1 ≤ workers) × (workers ≤ 16)
workers_within words opening listen workers conns asked = counts 16 (or (value_of (codes "workers") asked.given) (codes "1")) workers asked.shared

-- words that ask for a text name 4 to 200 columns and 4 to 100 rows
pub columns_within : (words : List (List ℕ)) (columns rows : ℕ) → AsksForText words columns rows → (4 ≤ columns) × (columns ≤ 200)
columns_within words columns rows asked = (asked.wide.enough, (counts 200 asked.wide.text columns asked.wide.counts).1)

pub rows_within : (words : List (List ℕ)) (columns rows : ℕ) → AsksForText words columns rows → (4 ≤ rows) × (rows ≤ 100)
rows_within words columns rows asked = (asked.high.enough, (counts 100 asked.high.text rows asked.high.counts).1)

-- words that ask for a mirror name a display of 1 to 2,048 pixels across and down
pub mirror_wide : (words : List (List ℕ)) (opening : Opening) → AsksForMirror words opening → is_side opening.width ≡ true
mirror_wide words opening asked = (sides_spelled (or (value_of (codes "size") asked.given) (codes "640x480")) _ asked.opened.sized).0

pub mirror_high : (words : List (List ℕ)) (opening : Opening) → AsksForMirror words opening → is_side opening.height ≡ true
mirror_high words opening asked = (sides_spelled (or (value_of (codes "size") asked.given) (codes "640x480")) _ asked.opened.sized).1
