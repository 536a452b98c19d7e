-- Which texts are the digits of a message.
use Rattle.std.proofs.Common.{◌≡◌, ℕ, zero, suc, ◌/◌, ◌%◌, ◌&&◌, Bool, true, false, List, [], ◌∷◌, length, take, Option, Some, None, is_some, refl, sym, ap, ◌∙◌, arith}
use Rattle.std.specs.List.{list_all}
use Rattle.model_text.specs.text.Number.{AreBytes, four_bytes}
use Rattle.model_text.specs.text.Hex.{hex, unhex, hex_value, with_byte}
use Rattle.model_text.proofs.text.Fields.{AreBytes-take}
use Rattle.model_text.proofs.text.HexLaws.{unhex-hex, hex-unhex}
use Rattle.r9_journal.specs.Digits.{AreMessageDigits, SpellsMessage}
use Rattle.r9_journal.proofs.Lengths.{hex_len}

-- ---- digits two after two

pub odd_unread : (text : List ℕ) → length text % 2 ≡ 1 → is_some (unhex text) ≡ false
odd_unread [] odd = absurd (omega arith)
odd_unread (a ∷ []) odd = refl
odd_unread (a ∷ b ∷ text) odd = by (hex_value a) (hex_value b) (unhex text) (odd_unread text (omega arith))
  where
    by : (x y : Option ℕ) (read : Option (List ℕ)) → is_some read ≡ false → is_some (with_byte x y read) ≡ false
    by None y read none = refl
    by (Some h) None read none = refl
    by (Some h) (Some l) None none = refl
    by (Some h) (Some l) (Some bytes) none = absurd (cc none)

pub even_read : (text : List ℕ) → length text % 2 ≡ 0 → list_all (λ character. is_some (hex_value character)) text ≡ is_some (unhex text)
even_read [] even = refl
even_read (a ∷ []) even = absurd (omega arith)
even_read (a ∷ b ∷ text) even = by (hex_value a) (hex_value b) (unhex text) _ (even_read text (omega arith))
  where
    by : (x y : Option ℕ) (read : Option (List ℕ)) (all : Bool) → all ≡ is_some read → (is_some x && (is_some y && all)) ≡ is_some (with_byte x y read)
    by None y read all same = refl
    by (Some h) None read all same = refl
    by (Some h) (Some l) None all same = same
    by (Some h) (Some l) (Some bytes) all same = same

-- ---- the first four bytes

take_hex : (bytes : List ℕ) → take 8 (hex bytes) ≡ hex (take 4 bytes)
take_hex [] = refl
take_hex (a ∷ []) = refl
take_hex (a ∷ b ∷ []) = refl
take_hex (a ∷ b ∷ c ∷ []) = refl
take_hex (a ∷ b ∷ c ∷ d ∷ bytes) = refl

some_is : (x y : List ℕ) → Some x ≡ Some y → x ≡ y
some_is x y e = cc

hex_injective : (xs ys : List ℕ) → AreBytes xs → AreBytes ys → hex xs ≡ hex ys → xs ≡ ys
hex_injective xs ys are others e = some_is xs ys (sym (unhex-hex xs are) ∙ ap (λ (t : List ℕ). unhex t) e ∙ unhex-hex ys others)

four_are_bytes : (n : ℕ) → AreBytes (four_bytes n)
four_are_bytes n zero = omega arith
four_are_bytes n (suc zero) = omega arith
four_are_bytes n (suc (suc zero)) = omega arith
four_are_bytes n (suc (suc (suc zero))) = omega arith
four_are_bytes n (suc (suc (suc (suc i)))) = omega arith

-- ---- the digits of a message

read_of : (read : Option (List ℕ)) → is_some read ≡ true → (bytes : List ℕ) × (read ≡ Some bytes)
read_of None e = absurd (cc e)
read_of (Some bytes) e = (bytes, refl)

half : (text bytes : List ℕ) → text ≡ hex bytes → length text / 2 ≡ length bytes
half text bytes is = omega (arith, ap length is, hex_len bytes)

pub spelled : (text : List ℕ) → AreMessageDigits text → SpellsMessage text
spelled text are =
    let read = read_of (unhex text) are.digits in
    let bytes = read.0 in
    let is = hex-unhex text bytes read.1 in
    let size = half text bytes is.0 in
    let front : hex (take 4 bytes) ≡ hex (four_bytes (length bytes)) =
    sym (take_hex bytes) ∙ ap (λ (t : List ℕ). take 8 t) (sym is.0) ∙ are.sized ∙ ap (λ (n : ℕ). hex (four_bytes n)) size in (
      bytes,
      read.1,
      record {
        long = omega (arith, are.long, size);
        short = omega (arith, are.short, ap length is.0, hex_len bytes);
        sized = hex_injective (take 4 bytes) (four_bytes (length bytes)) (AreBytes-take 4 bytes is.1) (four_are_bytes (length bytes)) front;
        are_bytes = is.1;
      },
    )

pub digits_of : (text : List ℕ) → SpellsMessage text → AreMessageDigits text
digits_of text spells =
    let bytes = spells.0 in
    let is = hex-unhex text bytes spells.1 in
    let size = half text bytes is.0 in
    record {
      long = omega (arith, spells.2.long, ap length is.0, hex_len bytes);
      short = omega (arith, spells.2.short, ap length is.0, hex_len bytes);
      sized = ap (λ (t : List ℕ). take 8 t) is.0 ∙ take_hex bytes ∙ ap (λ (t : List ℕ). hex t) spells.2.sized ∙ ap (λ (n : ℕ). hex (four_bytes n)) (sym size);
      digits = ap (λ (r : Option (List ℕ)). is_some r) spells.1;
    }
