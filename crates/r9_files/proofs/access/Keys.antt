-- What may be typed.
use Rattle.std.specs.Prelude.{◌&&◌, nat_le, not, ◌==◌}
use Rattle.std.proofs.Common.{◌≡◌, ℕ, Bool, true, false, List, length, refl, ap, ◌∙◌}
use Rattle.std.specs.List.{list_any}
use Rattle.std.specs.Str.{IsUtf8, is_utf8, chars}
use Rattle.std.proofs.lemmas.Str.{IsUtf8-from_is_utf8, is_utf8-from_IsUtf8}
use Rattle.model_world.specs.Writing.{are_keys, most_keys}

first_of : (a b c d : Bool) → (a && b && c && d) ≡ true → a ≡ true
first_of true b c d all = refl
first_of false b c d all = absurd (let f : ◌≡◌ {A = Bool} false true = all in cc)

-- it is characters of UTF-8
pub keys_utf8 : (bytes : List ℕ) → are_keys bytes ≡ true → IsUtf8 bytes
unfolding are_keys
keys_utf8 bytes are =
    IsUtf8-from_is_utf8 bytes
    (first_of (is_utf8 bytes) (nat_le 1 (length (chars bytes))) (nat_le (length (chars bytes)) most_keys) (not (list_any (λ byte. byte == 0) bytes)) are)

-- bytes that are none
pub no_text : (bytes : List ℕ) → (IsUtf8 bytes → ⊥) → false ≡ are_keys bytes
unfolding are_keys
no_text bytes other = by (is_utf8 bytes) refl
  where
    by : (b : Bool) → is_utf8 bytes ≡ b → false ≡ (b && nat_le 1 (length (chars bytes)) && nat_le (length (chars bytes)) most_keys && not (list_any (λ byte. byte == 0) bytes))
    by true is = absurd (other (IsUtf8-from_is_utf8 bytes is))
    by false is = refl

-- no characters, or too many
pub no_keys : (bytes : List ℕ) → (nat_le 1 (length (chars bytes)) && nat_le (length (chars bytes)) most_keys) ≡ false → false ≡ are_keys bytes
unfolding are_keys
no_keys bytes other = by (is_utf8 bytes) (nat_le 1 (length (chars bytes))) (nat_le (length (chars bytes)) most_keys) (not (list_any (λ byte. byte == 0) bytes)) other
  where
    by : (a b c d : Bool) → (b && c) ≡ false → false ≡ (a && b && c && d)
    by false b c d none = refl
    by true false c d none = refl
    by true true false d none = refl
    by true true true d none = absurd (let f : ◌≡◌ {A = Bool} true false = none in cc)

pub keys_are : (bytes : List ℕ) (zero : Bool) → IsUtf8 bytes → (nat_le 1 (length (chars bytes)) && nat_le (length (chars bytes)) most_keys) ≡ true → zero ≡ list_any (λ byte. byte == 0) bytes → not zero ≡ are_keys bytes
unfolding are_keys
keys_are bytes zero text few is =
    ap not is ∙ by (is_utf8 bytes) (nat_le 1 (length (chars bytes))) (nat_le (length (chars bytes)) most_keys) (not (list_any (λ byte. byte == 0) bytes)) (is_utf8-from_IsUtf8 bytes text) few
  where
    by : (a b c d : Bool) → a ≡ true → (b && c) ≡ true → d ≡ (a && b && c && d)
    by true true true d utf8 some = refl
    by true true false d utf8 some = absurd (let f : ◌≡◌ {A = Bool} false true = some in cc)
    by true false c d utf8 some = absurd (let f : ◌≡◌ {A = Bool} false true = some in cc)
    by false b c d utf8 some = absurd (let f : ◌≡◌ {A = Bool} false true = utf8 in cc)
