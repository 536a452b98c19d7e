-- What fields give, and how their values stand in a packed colour.
use Rattle.std.proofs.Common.{◌≡◌, ℕ, ◌+◌, ◌*◌, ◌/◌, ◌%◌, ◌^◌, ◌-◌, ◌<◌, true, refl, ap, sym, subst, ◌∙◌, arith}
use Rattle.std.specs.Prelude.{◌==◌}
use Rattle.std.proofs.Math.Nat.{mod-lt}
use Rattle.std.proofs.lemmas.Bool.{agree_below}
use Rattle.std.proofs.lemmas.Nat.{one_shl, and_mask, pow_pos}
use Rattle.std.specs.Int.Bits.{bit_and}
use Rattle.model_pixel.specs.Channels.{colour_of, channels, expand, promoted}
use Rattle.r9_chan.proofs.PromotionLemmas.{promoted_by}

-- the mask of so many bits
pub masked : (x bits : ℕ) → bits < 32 → bit_and x (1 * 2 ^ bits % 2 ^ 32 - 1) ≡ x % 2 ^ bits
masked x bits h = ap (λ m. bit_and x (m - 1)) (one_shl bits 32 h) ∙ and_mask x bits

pub and_none : (x : ℕ) → bit_and x 0 ≡ 0
and_none x = and_mask x 0 ∙ omega arith

pub bits-below : (x bits : ℕ) → x % 2 ^ bits < 2 ^ bits
bits-below x bits = mod-lt x (pow_pos bits)

-- a product without its lowest bits promotes k bits, since it does at each value
pub promotes : (k times cut : ℕ) → agree_below (λ v. (v * times / 2 ^ cut) == promoted k v) (λ _. true) (2 ^ k) ≡ true
    → (bits x filled : ℕ) → bits ≡ k → filled ≡ x % 2 ^ k * times / 2 ^ cut → filled ≡ promoted bits (x % 2 ^ bits)
promotes k times cut each bits x filled same is =
    subst (λ (n : ℕ). filled ≡ promoted n (x % 2 ^ n)) (sym same)
    (promoted_by k (λ v. v * times / 2 ^ cut) each k (x % 2 ^ k) filled refl (bits-below x k) is)

pub joined_is : (r g b a : ℕ) → r < 256 → g < 256 → b < 256 → a < 256
    → colour_of (r * 16777216 % 4294967296 + g * 65536 % 4294967296 + b * 256 % 4294967296 + a) ≡ record { r = r; g = g; b = b; a = a }
joined_is r g b a R G B A =
    let word = r * 16777216 % 4294967296 + g * 65536 % 4294967296 + b * 256 % 4294967296 + a in
    let er : word / 16777216 % 256 ≡ r = omega arith in
    let eg : word / 65536 % 256 ≡ g = omega arith in
    let eb : word / 256 % 256 ≡ b = omega arith in
    let ea : word % 256 ≡ a = omega arith in
    λ i. record { r = er i; g = eg i; b = eb i; a = ea i }

pub byte : (v : ℕ) → v < 256 → v ≡ promoted 8 v
unfolding promoted
byte v h = promoted_by 8 (λ v. v) refl 8 v v refl h refl

-- a byte of grey
pub grey_read : (raw : ℕ) → colour_of (raw % 256 * 16843008 + 255) ≡ expand 56 raw
unfolding expand channels
grey_read raw =
    let word = raw % 256 * 16843008 + 255 in
    let v = raw % 256 in
    let r : word / 16777216 % 256 ≡ v = omega arith in
    let g : word / 65536 % 256 ≡ v = omega arith in
    let b : word / 256 % 256 ≡ v = omega arith in
    let a : word % 256 ≡ 255 = omega arith in
    let is = byte v (omega arith) in
    λ i. record { r = (r ∙ is) i; g = (g ∙ is) i; b = (b ∙ is) i; a = a i }
