-- Digits that are read are those of the bytes, and the digits of bytes are read again.
use Rattle.std.proofs.Common.{◌≡◌, ℕ, suc, zero, ◌+◌, ◌-◌, ◌*◌, ◌/◌, ◌%◌, ◌<◌, ◌≤◌, ◌≢◌, ltb, List, [], ◌∷◌, Option, Some, None, refl, sym, ap, ◌∙◌, subst, arith, inl, inr}
use Rattle.std.proofs.lemmas.Bool.{cases_lt, ltb-true, ltb-false}
use Rattle.std.proofs.lemmas.Bool.Decides.{nat_tests}
use Rattle.std.specs.List.{AllByRecursion}
use Rattle.model_text.specs.text.Number.{AreBytes}
use Rattle.model_text.proofs.text.Fields.{chosen}
use Rattle.model_text.specs.text.Hex.{hex, hex_digit, hex_value, with_byte, unhex}

pub hex_value-hex_digit : (v : ℕ) → v < 16 → hex_value (hex_digit v) ≡ Some v
hex_value-hex_digit v lt = elim (cases_lt v 10) [
  | inl low ↦
      let digit : hex_digit v ≡ 48 + v = grind (arith, nat_tests) in
      let back : 48 + v - 48 ≡ v = omega arith in
      let value : hex_value (48 + v) ≡ Some (48 + v - 48) = grind (arith, nat_tests) in
      ap hex_value digit ∙ value ∙ ap (λ (n : ℕ). Some n) back
  | inr high ↦
      let digit : hex_digit v ≡ 87 + v = grind (arith, nat_tests) in
      let back : 87 + v - 87 ≡ v = omega arith in
      let value : hex_value (87 + v) ≡ Some (87 + v - 87) = grind (arith, nat_tests) in
      ap hex_value digit ∙ value ∙ ap (λ (n : ℕ). Some n) back
]

pub hex_digit-hex_value : (d v : ℕ) → hex_value d ≡ Some v → (hex_digit v ≡ d) × (v < 16)
hex_digit-hex_value d v e = elim (chosen (ltb d 48) None _ (Some v) e) [
  | inl below ↦ absurd (cc below.1)
  | inr from48 ↦ elim (chosen (ltb d 58) (Some (d - 48)) _ (Some v) from48.1) [
    | inl digit ↦
        let lt : d < 58 = ltb-true _ _ digit.0 in
        let le : 48 ≤ d = ltb-false _ _ from48.0 in
        let is : d - 48 ≡ v = cc digit.1 in
        let small : v < 10 = omega arith in
        let shown : hex_digit v ≡ 48 + v = grind (arith, nat_tests) in
        (omega arith, omega arith)
    | inr from58 ↦ elim (chosen (ltb d 97) None _ (Some v) from58.1) [
      | inl between ↦ absurd (cc between.1)
      | inr from97 ↦ elim (chosen (ltb d 103) (Some (d - 87)) None (Some v) from97.1) [
        | inl letter ↦
            let lt : d < 103 = ltb-true _ _ letter.0 in
            let le : 97 ≤ d = ltb-false _ _ from97.0 in
            let is : d - 87 ≡ v = cc letter.1 in
            let large : 10 ≤ v = omega arith in
            let shown : hex_digit v ≡ 87 + v = grind (arith, nat_tests) in
            (omega arith, omega arith)
        | inr past ↦ absurd (cc past.1)
      ]
    ]
  ]
]

pub unhex-hex : (bytes : List ℕ) → AreBytes bytes → unhex (hex bytes) ≡ Some bytes
unhex-hex [] are = refl
unhex-hex (b ∷ bytes) are =
    let lt : b < 256 = are 0 in
    let high : hex_value (hex_digit (b / 16)) ≡ Some (b / 16) = hex_value-hex_digit (b / 16) (omega arith) in
    let low : hex_value (hex_digit (b % 16)) ≡ Some (b % 16) = hex_value-hex_digit (b % 16) (omega arith) in
    let rest : unhex (hex bytes) ≡ Some bytes = unhex-hex bytes (λ i. are (suc i)) in
    let byte : 16 * (b / 16) + b % 16 ≡ b = omega arith in
    ap (λ (x : Option ℕ). with_byte x (hex_value (hex_digit (b % 16))) (unhex (hex bytes))) high
    ∙ ap (λ (x : Option ℕ). with_byte (Some (b / 16)) x (unhex (hex bytes))) low
    ∙ ap (λ (x : Option (List ℕ)). with_byte (Some (b / 16)) (Some (b % 16)) x) rest
    ∙ ap (λ (n : ℕ). Some (n ∷ bytes)) byte

some_is : (x y : List ℕ) → Some x ≡ Some y → x ≡ y
some_is x y e = cc

AreBytes-cons : (b : ℕ) (bytes : List ℕ) → b < 256 → AreBytes bytes → AreBytes (b ∷ bytes)
AreBytes-cons b bytes lt are zero = lt
AreBytes-cons b bytes lt are (suc i) = are i

with_byte_some : (high low : Option ℕ) (rest : Option (List ℕ)) (bytes : List ℕ) → with_byte high low rest ≡ Some bytes
    → (h l : ℕ) × (bs : List ℕ) × (high ≡ Some h) × (low ≡ Some l) × (rest ≡ Some bs) × ((16 * h + l) ∷ bs ≡ bytes)
with_byte_some (Some h) (Some l) (Some bs) bytes e = (h, l, bs, refl, refl, refl, cc)
with_byte_some (Some h) (Some l) None bytes e = absurd cc
with_byte_some (Some h) None rest bytes e = absurd cc
with_byte_some None low rest bytes e = absurd cc

pub hex-unhex : (text bytes : List ℕ) → unhex text ≡ Some bytes → (text ≡ hex bytes) × AreBytes bytes
hex-unhex [] bytes e = subst (λ (bs : List ℕ). ([] ≡ hex bs) × AreBytes bs) (some_is [] bytes e) (refl, λ i. omega arith)
hex-unhex (a ∷ []) bytes e = absurd cc
hex-unhex (a ∷ b ∷ text) bytes e =
    let s = with_byte_some (hex_value a) (hex_value b) (unhex text) bytes e in
    let high = hex_digit-hex_value a s.0 s.3 in
    let low = hex_digit-hex_value b s.1 s.4 in
    let rest = hex-unhex text s.2 s.5 in
    let byte = 16 * s.0 + s.1 in
    let over : byte / 16 ≡ s.0 = omega (arith, low.1) in
    let under : byte % 16 ≡ s.1 = omega (arith, low.1) in
    let first : hex_digit (byte / 16) ≡ a = ap hex_digit over ∙ high.0 in
    let second : hex_digit (byte % 16) ≡ b = ap hex_digit under ∙ low.0 in
    subst (λ (bs : List ℕ). ((a ∷ b ∷ text) ≡ hex bs) × AreBytes bs) s.6
    ((λ i. sym first i ∷ sym second i ∷ rest.0 i), AreBytes-cons byte s.2 (omega (arith, high.1, low.1)) rest.1)

-- the digits of bytes have no newline
pub hex_one_line : (bytes : List ℕ) → AreBytes bytes → AllByRecursion (λ digit. digit ≢ 10) (hex bytes)
hex_one_line [] are = tt
hex_one_line (b ∷ bytes) are =
    let lt : b < 256 = are 0 in
    (no_newline (b / 16) (omega arith), (no_newline (b % 16) (omega arith), hex_one_line bytes (λ i. are (suc i))))
  where
    no_newline : (v : ℕ) → v < 16 → hex_digit v ≢ 10
    no_newline v small is = let back : hex_value 10 ≡ Some v = ap hex_value (sym is) ∙ hex_value-hex_digit v small in absurd (cc back)
