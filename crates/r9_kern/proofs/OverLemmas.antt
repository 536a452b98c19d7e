-- What SoverD through a full mask makes of raw pixels whose highest byte is the alpha.
use Rattle.std.proofs.Common.{◌≡◌, ℕ, ◌+◌, ◌-◌, ◌/◌, ◌%◌, ◌^◌, ◌<◌, min, ap, ◌∙◌, arith}
use Rattle.model_pixel.specs.Channels.{Colour, channels, colour_of, expand, pack}
use Rattle.model_pixel.specs.Composition.{mul, comp}
use Rattle.r9_kern.specs.Over.{over_raw}
use Rattle.r9_kern.proofs.LaneLemmas.{over_is}
use Rattle.r9_kern.proofs.LayoutLemmas.{whole}

-- byte k of a raw pixel
abbrev pub byte : ℕ → ℕ → ℕ
byte k raw = raw / 256 ^ k % 256

-- and of what SoverD makes of two
abbrev pub kept : ℕ → ℕ → ℕ → ℕ
kept s d k = min 255 (byte k s + mul (byte k d) (255 - byte 3 s))

raw_argb : (raw : ℕ) → record { r = byte 2 raw; g = byte 1 raw; b = byte 0 raw; a = byte 3 raw } ≡ expand 1208490024 raw
unfolding expand channels
raw_argb raw =
    let r : raw / 65536 % 256 ≡ raw / 256 / 256 % 256 = omega arith in
    let a : raw / 16777216 % 256 ≡ raw / 256 / 256 / 256 % 256 = omega arith in
    let b : byte 0 raw ≡ raw % 256 = omega arith in
    λ i. record {
      r = (r ∙ whole (raw / 256 / 256 % 256) (omega arith)) i;
      g = whole (raw / 256 % 256) (omega arith) i;
      b = (b ∙ whole (raw % 256) (omega arith)) i;
      a = (a ∙ whole (raw / 256 / 256 / 256 % 256) (omega arith)) i;
    }

raw_xrgb : (raw : ℕ) → record { r = byte 2 raw; g = byte 1 raw; b = byte 0 raw; a = 255 } ≡ expand 1745360936 raw
unfolding expand channels
raw_xrgb raw =
    let r : raw / 65536 % 256 ≡ raw / 256 / 256 % 256 = omega arith in
    let b : byte 0 raw ≡ raw % 256 = omega arith in
    λ i. record {
      r = (r ∙ whole (raw / 256 / 256 % 256) (omega arith)) i;
      g = whole (raw / 256 % 256) (omega arith) i;
      b = (b ∙ whole (raw % 256) (omega arith)) i;
      a = 255;
    }

abbrev of_bytes : ℕ → ℕ → Colour
of_bytes a raw = record { r = byte 2 raw; g = byte 1 raw; b = byte 0 raw; a = a }

composed_of : (s d da : ℕ) → record { r = kept s d 2; g = kept s d 1; b = kept s d 0; a = min 255 (byte 3 s + mul da (255 - byte 3 s)) } ≡ comp 11 (of_bytes (byte 3 s) s) 255 (of_bytes da d)
unfolding comp
composed_of s d da = λ i. record {
  r = over_is (byte 2 s) (byte 3 s) (byte 2 d) da i;
  g = over_is (byte 1 s) (byte 3 s) (byte 1 d) da i;
  b = over_is (byte 0 s) (byte 3 s) (byte 0 d) da i;
  a = over_is (byte 3 s) (byte 3 s) da da i;
}

packed_argb : (w : ℕ) → w < 4294967296 → w ≡ pack 1208490024 (record { r = w / 65536 % 256; g = w / 256 % 256; b = w % 256; a = w / 16777216 % 256 })
unfolding pack channels
packed_argb w h = omega arith

packed_xrgb : (w a : ℕ) → w % 16777216 ≡ pack 1745360936 (record { r = w / 65536 % 256; g = w / 256 % 256; b = w % 256; a = a })
unfolding pack channels
packed_xrgb w a = omega arith

-- the bytes of the word, the highest first
abbrev pub Has : ℕ → ℕ → ℕ → Type 0
Has w s d = colour_of w ≡ record { r = kept s d 3; g = kept s d 2; b = kept s d 1; a = kept s d 0 }

pub argb_is : (w s d : ℕ) → w < 4294967296 → Has w s d → w ≡ over_raw 1208490024 1208490024 s d
argb_is w s d h has =
    packed_argb w h
    ∙ ap (λ (c : Colour). pack 1208490024 (record { r = c.g; g = c.b; b = c.a; a = c.r })) has
    ∙ ap (pack 1208490024) (composed_of s d (byte 3 d) ∙ (λ i. comp 11 (raw_argb s i) 255 (raw_argb d i)))

pub xrgb_is : (w s d : ℕ) → Has w s d → w % 2 ^ 24 ≡ over_raw 1745360936 1208490024 s d
xrgb_is w s d has =
    let a = min 255 (byte 3 s + mul 255 (255 - byte 3 s)) in
    packed_xrgb w a
    ∙ ap (λ (c : Colour). pack 1745360936 (record { r = c.g; g = c.b; b = c.a; a = a })) has
    ∙ ap (pack 1745360936) (composed_of s d 255 ∙ (λ i. comp 11 (raw_argb s i) 255 (raw_xrgb d i)))
