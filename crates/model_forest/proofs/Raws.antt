-- What is packed for channels fits the bits of a pixel.
use Rattle.std.proofs.Common.{◌≡◌, ◌∙◌, ℕ, zero, suc, ◌+◌, ◌-◌, ◌*◌, ◌/◌, ◌%◌, ◌<◌, ◌≤◌, ◌^◌, Bool, true, false, List, [], ◌∷◌, sym, ap, subst, arith}
use Rattle.std.specs.Prelude.{if◌then◌else◌, ◌==◌, ◌&&◌, nat_le}
use Rattle.std.specs.List.{list_all, sum_by}
use Rattle.std.proofs.lemmas.Bool.{and_parts, leb-true}
use Rattle.std.proofs.lemmas.List.Sums.{sum_by-cons}
use Rattle.std.proofs.lemmas.Nat.{mul-add-lt, pow-add, pow_pos, shr_below}
use Rattle.model_pixel.specs.Channels.{Channel, Colour, channels, component, depth, expand, grey_of, is_channel, is_descriptor, is_kind, level, mask, pack, packed, promoted, repeated}
use Rattle.model_pixel.specs.Composition.{comp, composed, composed_raw, mul}

-- a descriptor's channels are lawful
descriptor_channels : (word : ℕ) → is_descriptor word ≡ true → list_all is_channel (channels word) ≡ true
descriptor_channels word h = (and_parts _ _ (and_parts _ _ (and_parts _ _ (and_parts _ _ h).0).0).0).0

-- ---- what is packed

-- each component is one of a byte
pub record IsByteColour (c : Colour) : Type 0 where
  pub r : c.r < 256
  pub g : c.g < 256
  pub b : c.b < 256
  pub a : c.a < 256

chosen : (b : Bool) (x y : ℕ) → x < 256 → y < 256 → (if b then x else y) < 256
chosen true x y p q = p
chosen false x y p q = q

component_below : (kind : ℕ) (c : Colour) → IsByteColour c → component kind c < 256
component_below kind c is =
    let grey : grey_of c < 256 = omega (arith, is.r, is.g, is.b) in
    chosen (kind == 0) _ _ is.r
    (chosen (kind == 1) _ _ is.g
    (chosen (kind == 2) _ _ is.b
    (chosen (kind == 3) _ _ grey
    (chosen (kind == 4) _ _ is.a (omega arith)))))

packed_below : (cs : List Channel) (c : Colour) → list_all is_channel cs ≡ true → IsByteColour c → packed cs c < 2 ^ sum_by (λ (d : Channel). d.bits) cs
packed_below [] c all is = omega arith
packed_below (d ∷ cs) c all is =
    let parts = and_parts (is_channel d) (list_all is_channel cs) all in
    let kind = and_parts (is_kind d.kind) (nat_le 1 d.bits && nat_le d.bits 8) parts.0 in
    let bits = and_parts (nat_le 1 d.bits) (nat_le d.bits 8) kind.1 in
    let most : d.bits ≤ 8 = leb-true d.bits 8 bits.1 in
    let rest = packed_below cs c parts.1 is in
    let whole : d.bits + (8 - d.bits) ≡ 8 = omega arith in
    let byte = component_below d.kind c is in
    let fits : component d.kind c < 2 ^ (d.bits + (8 - d.bits)) = subst (λ n. component d.kind c < 2 ^ n) (sym whole) byte in
    let low : component d.kind c / 2 ^ (8 - d.bits) < 2 ^ d.bits = shr_below (component d.kind c) d.bits (8 - d.bits) fits in
    let both = mul-add-lt (packed cs c) (2 ^ d.bits) (component d.kind c / 2 ^ (8 - d.bits)) (2 ^ sum_by (λ (e : Channel). e.bits) cs) rest low in
    let sum : 2 ^ sum_by (λ (e : Channel). e.bits) (d ∷ cs) ≡ 2 ^ d.bits * 2 ^ sum_by (λ (e : Channel). e.bits) cs =
    ap (λ n. 2 ^ n) (sum_by-cons (λ (e : Channel). e.bits) d cs) ∙ pow-add 2 d.bits (sum_by (λ (e : Channel). e.bits) cs) in
    omega (arith, both, sum)

composed_below : (op s sa d da : ℕ) → composed op s sa d da < 256
unfolding composed
composed_below op s sa d da = omega arith

comp_below : (op : ℕ) (s : Colour) (m : ℕ) (d : Colour) → IsByteColour (comp op s m d)
unfolding comp
comp_below op s m d = record {
  r = composed_below op (mul s.r m) (mul s.a m) d.r d.a;
  g = composed_below op (mul s.g m) (mul s.a m) d.g d.a;
  b = composed_below op (mul s.b m) (mul s.a m) d.b d.a;
  a = composed_below op (mul s.a m) (mul s.a m) d.a d.a;
}

-- a composed colour that is packed fits
pub drawn_below : (to op : ℕ) (s : Colour) (m : ℕ) (d : Colour) → is_descriptor to ≡ true → pack to (comp op s m d) < 2 ^ depth to
unfolding pack
drawn_below to op s m d is = packed_below (channels to) (comp op s m d) (descriptor_channels to is) (comp_below op s m d)

-- a composed pixel fits the target's
pub composed_raw_below : (dst src through op s m d : ℕ) → is_descriptor dst ≡ true → composed_raw dst src through op s m d < 2 ^ depth dst
unfolding composed_raw
composed_raw_below dst src through op s m d is = drawn_below dst op (expand src s) (mask through m) (expand dst d) is

-- ---- what is filled

repeated_below : (times bits value : ℕ) → value < 2 ^ bits → repeated times bits value < 2 ^ (times * bits)
repeated_below zero bits value fits = let zeros : 0 * bits ≡ 0 = omega arith in let one : 2 ^ (0 * bits) ≡ 2 ^ 0 = ap (λ n. 2 ^ n) zeros in omega (arith, one)
repeated_below (suc times) bits value fits =
    let rest = repeated_below times bits value fits in
    let both = mul-add-lt (repeated times bits value) (2 ^ bits) value (2 ^ (times * bits)) rest fits in
    let more : times * bits + bits ≡ suc times * bits = omega arith in
    let power : 2 ^ (suc times * bits) ≡ 2 ^ (times * bits) * 2 ^ bits = ap (λ n. 2 ^ n) (sym more) ∙ pow-add 2 (times * bits) bits in
    omega (arith, both, power)

promoted_below : (bits value : ℕ) → 1 ≤ bits → value < 2 ^ bits → promoted bits value < 256
unfolding promoted
promoted_below bits value some fits =
    let whole : 8 * bits ≡ 8 + (8 * bits - 8) = omega arith in
    shr_below (repeated 8 bits value) 8 (8 * bits - 8) (subst (λ n. repeated 8 bits value < 2 ^ n) whole (repeated_below 8 bits value fits))

level_below : (kind default : ℕ) (cs : List Channel) (raw : ℕ) → default < 256 → list_all is_channel cs ≡ true → level kind default cs raw < 256
level_below kind default [] raw fits all = fits
level_below kind default (c ∷ cs) raw fits all =
    let parts = and_parts (is_channel c) (list_all is_channel cs) all in
    let is = and_parts (is_kind c.kind) (nat_le 1 c.bits && nat_le c.bits 8) parts.0 in
    let bits = and_parts (nat_le 1 c.bits) (nat_le c.bits 8) is.1 in
    let positive = pow_pos c.bits in
    let low : raw % 2 ^ c.bits < 2 ^ c.bits = omega (arith, positive) in
    chosen (c.kind == kind) (promoted c.bits (raw % 2 ^ c.bits)) (level kind default cs (raw / 2 ^ c.bits))
    (promoted_below c.bits (raw % 2 ^ c.bits) (leb-true 1 c.bits bits.0) low)
    (level_below kind default cs (raw / 2 ^ c.bits) fits parts.1)

expand_below : (word raw : ℕ) → list_all is_channel (channels word) ≡ true → IsByteColour (expand word raw)
unfolding expand
expand_below word raw all =
    let cs = channels word in
    let grey = level_below 3 0 cs raw (omega arith) all in
    record {
      r = level_below 0 (level 3 0 cs raw) cs raw grey all;
      g = level_below 1 (level 3 0 cs raw) cs raw grey all;
      b = level_below 2 (level 3 0 cs raw) cs raw grey all;
      a = level_below 4 255 cs raw (omega arith) all;
    }

-- what a fill of any image gives fits
pub converted_below : (from to raw : ℕ) → is_descriptor from ≡ true → is_descriptor to ≡ true → pack to (expand from raw) < 2 ^ depth to
unfolding pack
converted_below from to raw lawful is =
    packed_below (channels to) (expand from raw) (descriptor_channels to is) (expand_below from raw (descriptor_channels from lawful))
