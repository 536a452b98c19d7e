-- What channels of 8 bits each give and take.
use Rattle.std.proofs.Common.{◌≡◌, ℕ, ◌+◌, ◌*◌, ◌/◌, ◌%◌, ◌^◌, ◌<◌, true, List, length, get_or, replicate, Fits, w32, refl, ap, ◌∙◌, arith}
use Rattle.std.specs.Prelude.{◌==◌}
use Rattle.std.proofs.lemmas.Bool.{agree_below_at, eqb-true}
use Rattle.std.proofs.lemmas.Simd.{get_or-zip2, get_or-replicate, length-zip2, Each1-get_or, below_from_Fits}
use lib.Lanes.{zip2, Each1}
use Rattle.model_pixel.specs.Channels.{colour_of, channels, expand, grey_of, mask, pack, promoted}

pub whole : (v : ℕ) → v < 256 → v ≡ promoted 8 v
unfolding promoted
whole v h = eqb-true _ _ (agree_below_at (λ v. v == promoted 8 v) (λ _. true) 256 v refl h)

pub expand_rgba : (raw : ℕ) → raw < 4294967296 → colour_of raw ≡ expand 135800904 raw
unfolding expand channels
expand_rgba raw h =
    let r : raw / 16777216 % 256 ≡ raw / 256 / 256 / 256 % 256 = omega arith in
    let g : raw / 65536 % 256 ≡ raw / 256 / 256 % 256 = omega arith in
    λ i. record {
      r = (r ∙ whole (raw / 256 / 256 / 256 % 256) (omega arith)) i;
      g = (g ∙ whole (raw / 256 / 256 % 256) (omega arith)) i;
      b = whole (raw / 256 % 256) (omega arith) i;
      a = whole (raw % 256) (omega arith) i;
    }

pub expand_argb : (raw : ℕ) → raw < 4294967296 → colour_of (raw * 256 % 4294967296 + raw / 16777216) ≡ expand 1208490024 raw
unfolding expand channels
expand_argb raw h =
    let word = raw * 256 % 4294967296 + raw / 16777216 in
    let r : word / 16777216 % 256 ≡ raw / 256 / 256 % 256 = omega arith in
    let g : word / 65536 % 256 ≡ raw / 256 % 256 = omega arith in
    let b : word / 256 % 256 ≡ raw % 256 = omega arith in
    let a : word % 256 ≡ raw / 256 / 256 / 256 % 256 = omega arith in
    λ i. record {
      r = (r ∙ whole (raw / 256 / 256 % 256) (omega arith)) i;
      g = (g ∙ whole (raw / 256 % 256) (omega arith)) i;
      b = (b ∙ whole (raw % 256) (omega arith)) i;
      a = (a ∙ whole (raw / 256 / 256 / 256 % 256) (omega arith)) i;
    }

pub expand_xrgb : (raw : ℕ) → raw < 4294967296 → colour_of (raw * 256 % 4294967296 + 255) ≡ expand 1745360936 raw
unfolding expand channels
expand_xrgb raw h =
    let word = raw * 256 % 4294967296 + 255 in
    let r : word / 16777216 % 256 ≡ raw / 256 / 256 % 256 = omega arith in
    let g : word / 65536 % 256 ≡ raw / 256 % 256 = omega arith in
    let b : word / 256 % 256 ≡ raw % 256 = omega arith in
    let a : word % 256 ≡ 255 = omega arith in
    λ i. record {
      r = (r ∙ whole (raw / 256 / 256 % 256) (omega arith)) i;
      g = (g ∙ whole (raw / 256 % 256) (omega arith)) i;
      b = (b ∙ whole (raw % 256) (omega arith)) i;
      a = a i;
    }

pub pack_rgba : (word : ℕ) → word < 4294967296 → word ≡ pack 135800904 (colour_of word)
unfolding pack channels
pack_rgba word h = omega arith

pub pack_argb : (word : ℕ) → word < 4294967296 → word / 256 + word * 16777216 % 4294967296 ≡ pack 1208490024 (colour_of word)
unfolding pack channels
pack_argb word h = omega arith

pub pack_xrgb : (word : ℕ) → word < 4294967296 → word / 256 ≡ pack 1745360936 (colour_of word)
unfolding pack channels
pack_xrgb word h = omega arith

pub mask_k8 : (raw : ℕ) → raw % 256 ≡ mask 56 raw
unfolding mask expand channels
mask_k8 raw =
    let v = raw % 256 in
    let grey : v ≡ (156763 * v + 307758 * v + 59769 * v) / 524288 = omega arith in
    grey ∙ ap (λ (v : ℕ). (156763 * v + 307758 * v + 59769 * v) / 524288) (whole v (omega arith))

bit : (v : ℕ) → v < 2 → v * 255 ≡ grey_of (record { r = promoted 1 v; g = promoted 1 v; b = promoted 1 v; a = 255 })
unfolding promoted
bit v h = eqb-true _ _ (agree_below_at (λ v. v * 255 == grey_of (record { r = promoted 1 v; g = promoted 1 v; b = promoted 1 v; a = 255 })) (λ _. true) 2 v refl h)

pub mask_k1 : (raw : ℕ) → raw % 2 * 255 ≡ mask 49 raw
unfolding mask expand channels
mask_k1 raw = bit (raw % 2) (omega arith)

-- ---- in lanes

abbrev add : ℕ → ℕ → ℕ
add x y = (x + y) % 4294967296

abbrev shl : ℕ → ℕ → ℕ
shl x s = x * 2 ^ s % 4294967296

abbrev shr : ℕ → ℕ → ℕ
shr x s = x / 2 ^ s

abbrev times : ℕ → ℕ → ℕ
times x y = x * y % 4294967296

-- lane i of an operator with a splat
with_splat : (f : ℕ → ℕ → ℕ) (xs : List ℕ) (y i : ℕ) → length xs ≡ 4 → i < 4 → get_or (zip2 f xs (replicate 4 y)) i 0 ≡ f (get_or xs i 0) y
with_splat f xs y i e less =
    get_or-zip2 f xs (replicate 4 y) i 0 0 0 (omega arith) less ∙ ap (f (get_or xs i 0)) (get_or-replicate 4 i y 0 less)

-- lane i of the sum of two shifts
two_shifts : (f g : ℕ → ℕ → ℕ) (xs : List ℕ) (y z i : ℕ) → length xs ≡ 4 → i < 4
    → get_or (zip2 add (zip2 f xs (replicate 4 y)) (zip2 g xs (replicate 4 z))) i 0 ≡ add (f (get_or xs i 0) y) (g (get_or xs i 0) z)
two_shifts f g xs y z i e less =
    let left = length-zip2 f xs (replicate 4 y) (e ∙ refl) in
    let right = length-zip2 g xs (replicate 4 z) (e ∙ refl) in
    get_or-zip2 add (zip2 f xs (replicate 4 y)) (zip2 g xs (replicate 4 z)) i 0 0 0 (omega (arith, left)) (omega (arith, right))
    ∙ (λ j. add (with_splat f xs y i e less j) (with_splat g xs z i e less j))

argb_lane : (raw : ℕ) → raw < 4294967296 → colour_of (add (shl raw 8) (shr raw 24)) ≡ expand 0x48081828 raw
argb_lane raw h =
    let sum : (raw * 256 % 4294967296 + raw / 16777216) % 4294967296 ≡ raw * 256 % 4294967296 + raw / 16777216 = omega arith in
    ap (λ (v : ℕ). colour_of v) sum ∙ expand_argb raw h

pub argb_lanes : (xs : List ℕ) (i : ℕ) → length xs ≡ 4 → i < 4 → get_or xs i 0 < 4294967296
    → colour_of (get_or (zip2 add (zip2 shl xs (replicate 4 8)) (zip2 shr xs (replicate 4 24))) i 0) ≡ expand 0x48081828 (get_or xs i 0)
argb_lanes xs i e less h = ap (λ (v : ℕ). colour_of v) (two_shifts shl shr xs 8 24 i e less) ∙ argb_lane (get_or xs i 0) h

xrgb_lane : (raw : ℕ) → raw < 4294967296 → colour_of (add (shl raw 8) 255) ≡ expand 0x68081828 raw
xrgb_lane raw h =
    let sum : (raw * 256 % 4294967296 + 255) % 4294967296 ≡ raw * 256 % 4294967296 + 255 = omega arith in
    ap (λ (v : ℕ). colour_of v) sum ∙ expand_xrgb raw h

pub xrgb_lanes : (xs : List ℕ) (i : ℕ) → length xs ≡ 4 → i < 4 → get_or xs i 0 < 4294967296
    → colour_of (get_or (zip2 add (zip2 shl xs (replicate 4 8)) (replicate 4 255)) i 0) ≡ expand 0x68081828 (get_or xs i 0)
xrgb_lanes xs i e less h =
    let long = length-zip2 shl xs (replicate 4 8) (e ∙ refl) in
    ap (λ (v : ℕ). colour_of v) (with_splat add (zip2 shl xs (replicate 4 8)) 255 i (long ∙ e) less ∙ ap (λ v. add v 255) (with_splat shl xs 8 i e less))
    ∙ xrgb_lane (get_or xs i 0) h

to_argb_lane : (word : ℕ) → word < 4294967296 → add (shr word 8) (shl word 24) ≡ pack 0x48081828 (colour_of word)
to_argb_lane word h =
    let sum : (word / 256 + word * 16777216 % 4294967296) % 4294967296 ≡ word / 256 + word * 16777216 % 4294967296 = omega arith in
    sum ∙ pack_argb word h

pub to_argb_lanes : (xs : List ℕ) (i : ℕ) → length xs ≡ 4 → i < 4 → get_or xs i 0 < 4294967296
    → get_or (zip2 add (zip2 shr xs (replicate 4 8)) (zip2 shl xs (replicate 4 24))) i 0 ≡ pack 0x48081828 (colour_of (get_or xs i 0))
to_argb_lanes xs i e less h = two_shifts shr shl xs 8 24 i e less ∙ to_argb_lane (get_or xs i 0) h

pub to_xrgb_lanes : (xs : List ℕ) (i : ℕ) → length xs ≡ 4 → i < 4 → get_or xs i 0 < 4294967296
    → get_or (zip2 shr xs (replicate 4 8)) i 0 ≡ pack 0x68081828 (colour_of (get_or xs i 0))
to_xrgb_lanes xs i e less h = with_splat shr xs 8 i e less ∙ pack_xrgb (get_or xs i 0) h

low_lane : (word : ℕ) → shr (shl word 8) 8 ≡ word % 2 ^ 24
low_lane word = omega arith

pub low_lanes : (xs : List ℕ) (i : ℕ) → length xs ≡ 4 → i < 4 → get_or (zip2 shr (zip2 shl xs (replicate 4 8)) (replicate 4 8)) i 0 ≡ get_or xs i 0 % 2 ^ 24
low_lanes xs i e less =
    let up = zip2 shl xs (replicate 4 8) in
    let up_long = length-zip2 shl xs (replicate 4 8) (e ∙ refl) ∙ e in
    with_splat shr up 8 i up_long less ∙ ap (λ v. shr v 8) (with_splat shl xs 8 i e less) ∙ low_lane (get_or xs i 0)

bit_lane : (raw : ℕ) → raw < 4294967296 → times (shr (shl raw 31) 31) 255 ≡ raw % 2 * 255
bit_lane raw h = omega arith

pub bit_lanes : (xs : List ℕ) (i : ℕ) → length xs ≡ 4 → i < 4 → get_or xs i 0 < 4294967296
    → get_or (zip2 times (zip2 shr (zip2 shl xs (replicate 4 31)) (replicate 4 31)) (replicate 4 255)) i 0 ≡ get_or xs i 0 % 2 * 255
bit_lanes xs i e less h =
    let up = zip2 shl xs (replicate 4 31) in
    let up_long = length-zip2 shl xs (replicate 4 31) (e ∙ refl) ∙ e in
    let down = zip2 shr up (replicate 4 31) in
    let down_long = length-zip2 shr up (replicate 4 31) (up_long ∙ refl) ∙ up_long in
    with_splat times down 255 i down_long less
    ∙ ap (λ v. times v 255) (with_splat shr up 31 i up_long less ∙ ap (λ v. shr v 31) (with_splat shl xs 31 i e less))
    ∙ bit_lane (get_or xs i 0) h

pub word_lane : (xs : List ℕ) (i : ℕ) → length xs ≡ 4 → Each1 (Fits w32) xs → i < 4 → get_or xs i 0 < 4294967296
word_lane xs i e fit less =
    Each1-get_or (λ x. x < 4294967296) xs i 0 (omega arith) (below_from_Fits w32 xs fit)
