-- The channels of a word: none of 0, else that of the lowest byte and those of the other bytes.
use Rattle.std.proofs.Common.{◌≡◌, ℕ, suc, zero, ◌+◌, ◌-◌, ◌*◌, ◌/◌, ◌%◌, ◌<◌, ◌≤◌, ◌^◌, ◌≢◌, true, false, ◌&&◌, zero-add, cond, refl, ap, ◌∙◌, sym, arith, [], ◌∷◌, map}
use Rattle.std.specs.Prelude.{◌==◌, if◌then◌else◌}
use Rattle.std.specs.List.{count_by, sum_by, list_all}
use Rattle.std.proofs.lemmas.List.Sums.{sum_by-cons}
use Rattle.std.proofs.lemmas.Nat.{div_below, shr_below, shl_whole, pow-add, mul-add-lt}
use Rattle.std.proofs.Math.Nat.{pow-suc}
use Rattle.std.proofs.lemmas.Bool.{ne_eqb, eq-eqb, cond-true, cond-false, cond_both, and_parts, leb-true}
use Rattle.std.proofs.lemmas.Bool.Decides.{nat_tests}
use Rattle.model_pixel.specs.Channels.{Colour, Channel, bytes_up_to, channel, channels, count_of, depth, is_channel, level, packed, component, promoted, mask, expand, grey_of, ALPHA, is_descriptor, is_depth}

bytes_more : (n v : ℕ) → v < 256 ^ n → bytes_up_to n v ≡ bytes_up_to (suc n) v
bytes_more zero v h = let e : v ≡ 0 = omega arith in rw e refl
bytes_more (suc n) v h =
    ap (λ t. if v == 0 then [] else v % 256 ∷ t) (bytes_more n (v / 256) (div_below v 256 (256 ^ n) (omega arith) (rw pow-suc at h)))

pub channels_none : channels 0 ≡ []
unfolding channels
channels_none = refl

pub channels-step : (w : ℕ) → w < 2 ^ 32 → w ≢ 0 → channels w ≡ channel (w % 256) ∷ channels (w / 256)
unfolding channels
channels-step w h n =
    ap (map channel) (cond-false (w == 0) [] (w % 256 ∷ bytes_up_to 3 (w / 256)) (ne_eqb w 0 n))
    ∙ ap (λ t. channel (w % 256) ∷ map channel t) (bytes_more 3 (w / 256) (omega arith))

-- each view of the channels, at no channel
pub count_of_none : (kind w : ℕ) → w ≡ 0 → count_of kind w ≡ 0
count_of_none kind w h = rw (h, channels_none) refl

pub depth_none : (w : ℕ) → w ≡ 0 → depth w ≡ 0
depth_none w h = rw (h, channels_none) refl

pub are_channels_none : (w : ℕ) → w ≡ 0 → list_all is_channel (channels w) ≡ true
are_channels_none w h = rw (h, channels_none) refl

pub level_none : (kind default w raw : ℕ) → w ≡ 0 → level kind default (channels w) raw ≡ default
level_none kind default w raw h = rw (h, channels_none) refl

pub packed_none : (w : ℕ) (c : Colour) → w ≡ 0 → packed (channels w) c ≡ 0
packed_none w c h = rw (h, channels_none) refl

-- and at one more
pub count_of_hit : (kind w : ℕ) → w < 2 ^ 32 → w ≢ 0 → w % 256 / 16 ≡ kind → count_of kind w ≡ 1 + count_of kind (w / 256)
count_of_hit kind w h n same =
    ap (count_by (λ c. c.kind == kind)) (channels-step w h n)
    ∙ sum_by-cons (λ (c : Channel). cond (c.kind == kind) 1 0) (channel (w % 256)) (channels (w / 256))
    ∙ ap (λ b. cond b 1 0 + count_of kind (w / 256)) (eq-eqb _ _ same)

pub count_of_miss : (kind w : ℕ) → w < 2 ^ 32 → w ≢ 0 → w % 256 / 16 ≢ kind → count_of kind w ≡ count_of kind (w / 256)
count_of_miss kind w h n other =
    ap (count_by (λ c. c.kind == kind)) (channels-step w h n)
    ∙ sum_by-cons (λ (c : Channel). cond (c.kind == kind) 1 0) (channel (w % 256)) (channels (w / 256))
    ∙ ap (λ b. cond b 1 0 + count_of kind (w / 256)) (ne_eqb _ _ other) ∙ zero-add _

pub depth-step : (w : ℕ) → w < 2 ^ 32 → w ≢ 0 → depth w ≡ w % 256 % 16 + depth (w / 256)
depth-step w h n =
    ap (sum_by (λ c. c.bits)) (channels-step w h n)
    ∙ sum_by-cons (λ (c : Channel). c.bits) (channel (w % 256)) (channels (w / 256))

pub are_channels-step : (w : ℕ) → w < 2 ^ 32 → w ≢ 0 → list_all is_channel (channels w) ≡ (is_channel (channel (w % 256)) && list_all is_channel (channels (w / 256)))
are_channels-step w h n = ap (list_all is_channel) (channels-step w h n)

pub are_channels_more : (w : ℕ) → w < 2 ^ 32 → w ≢ 0 → is_channel (channel (w % 256)) ≡ true → list_all is_channel (channels w) ≡ list_all is_channel (channels (w / 256))
are_channels_more w h n one = are_channels-step w h n ∙ ap (λ b. b && list_all is_channel (channels (w / 256))) one

pub are_channels_less : (w : ℕ) → w < 2 ^ 32 → w ≢ 0 → is_channel (channel (w % 256)) ≡ false → list_all is_channel (channels w) ≡ false
are_channels_less w h n one = are_channels-step w h n ∙ ap (λ b. b && list_all is_channel (channels (w / 256))) one

pub level-step : (kind default w raw : ℕ) → w < 2 ^ 32 → w ≢ 0 → level kind default (channels w) raw ≡ cond (w % 256 / 16 == kind) (promoted (w % 256 % 16) (raw % 2 ^ (w % 256 % 16))) (level kind default (channels (w / 256)) (raw / 2 ^ (w % 256 % 16)))
level-step kind default w raw h n = ap (λ cs. level kind default cs raw) (channels-step w h n)

pub packed-step : (w : ℕ) (c : Colour) → w < 2 ^ 32 → w ≢ 0 → packed (channels w) c ≡ component (w % 256 / 16) c / 2 ^ (8 - w % 256 % 16) + 2 ^ (w % 256 % 16) * packed (channels (w / 256)) c
packed-step w c h n = ap (λ cs. packed cs c) (channels-step w h n)

-- at most four channels, each of fewer than 16 bits
sum_most : (f : Channel → ℕ) (most : ℕ) → ((c : ℕ) → f (channel c) ≤ most) → (n w : ℕ) → sum_by f (map channel (bytes_up_to n w)) ≤ most * n
sum_most f most each zero w = omega arith
sum_most f most each (suc n) w =
    cond_both (w == 0) [] (w % 256 ∷ bytes_up_to n (w / 256)) (λ bytes. sum_by f (map channel bytes) ≤ most * suc n)
    (λ _. omega arith)
    (λ _. rw (sum_by-cons f (channel (w % 256)) (map channel (bytes_up_to n (w / 256))))
    (omega (arith, each (w % 256), sum_most f most each n (w / 256))))

pub count_of_most : (kind w : ℕ) → count_of kind w ≤ 4
unfolding channels
count_of_most kind w = sum_most (λ c. cond (c.kind == kind) 1 0) 1 (λ c. cond_both (c / 16 == kind) 1 0 (λ n. n ≤ 1) (λ _. omega arith) (λ _. omega arith)) 4 w

pub depth_most : (w : ℕ) → depth w ≤ 60
unfolding channels
depth_most w = sum_most (λ c. c.bits) 15 (λ c. omega arith) 4 w

-- what a word of lawful channels says of its lowest one
pub record Sound (w : ℕ) : Type 0 where
  pub some : 1 ≤ w % 256 % 16
  pub most : w % 256 % 16 ≤ 8
  pub others : list_all is_channel (channels (w / 256)) ≡ true

pub sound_of : (w : ℕ) → w < 2 ^ 32 → w ≢ 0 → list_all is_channel (channels w) ≡ true → Sound w
sound_of w h n all =
    let parts = and_parts (is_channel (channel (w % 256))) _ (sym (are_channels-step w h n) ∙ all) in
    let bits = and_parts _ _ (and_parts _ _ parts.0).1 in
    record { some = leb-true _ _ bits.0; most = leb-true _ _ bits.1; others = parts.1 }

pub level_hit : (kind default w raw : ℕ) → w < 2 ^ 32 → w ≢ 0 → w % 256 / 16 ≡ kind → level kind default (channels w) raw ≡ promoted (w % 256 % 16) (raw % 2 ^ (w % 256 % 16))
level_hit kind default w raw h n same =
    level-step kind default w raw h n ∙ cond-true (w % 256 / 16 == kind) _ _ (eq-eqb _ _ same)

pub level_miss : (kind default w raw : ℕ) → w < 2 ^ 32 → w ≢ 0 → w % 256 / 16 ≢ kind → level kind default (channels w) raw ≡ level kind default (channels (w / 256)) (raw / 2 ^ (w % 256 % 16))
level_miss kind default w raw h n other =
    level-step kind default w raw h n ∙ cond-false (w % 256 / 16 == kind) _ _ (ne_eqb _ _ other)

-- a part of so many bits put above the bits so far
pub record Put (raw part shift bits rest : ℕ) : Type 0 where
  pub sum : raw + part * 2 ^ shift % 2 ^ 32 + 2 ^ (shift + bits) * rest ≡ raw + 2 ^ shift * (part + 2 ^ bits * rest)
  pub below : raw + part * 2 ^ shift % 2 ^ 32 < 2 ^ (shift + bits)

pub put_above : (raw part shift bits rest : ℕ) → raw < 2 ^ shift → part < 2 ^ bits → shift + bits ≤ 32 → Put raw part shift bits rest
put_above raw part shift bits rest low high fits =
    let whole = shl_whole part bits shift 32 high (omega arith) in
    let product = pow-add 2 shift bits in
    record {
      sum = rw (whole, product) (omega arith);
      below = rw (whole, product) (omega (arith, mul-add-lt part (2 ^ shift) raw (2 ^ bits) high low));
    }

pub same_colour : (c d : Colour) → c.r ≡ d.r → c.g ≡ d.g → c.b ≡ d.b → c.a ≡ d.a → c ≡ d
same_colour c d r g b a = λ i. record { r = r i; g = g i; b = b i; a = a i }

-- the two cases of the mask value
pub mask_by_grey : (word raw : ℕ) → count_of ALPHA word ≡ 0 → mask word raw ≡ grey_of (expand word raw)
unfolding mask
mask_by_grey word raw none = cond-true (count_of ALPHA word == 0) _ _ (eq-eqb _ _ none)

pub mask_by_alpha : (word raw : ℕ) → count_of ALPHA word ≢ 0 → mask word raw ≡ (expand word raw).a
unfolding mask
mask_by_alpha word raw some = cond-false (count_of ALPHA word == 0) _ _ (ne_eqb _ _ some)

pub are_channels_of : (word : ℕ) → is_descriptor word ≡ true → list_all is_channel (channels word) ≡ true
are_channels_of word h = (and_parts _ _ (and_parts _ _ (and_parts _ _ (and_parts _ _ h).0).0).0).0

pub is_depth_of : (word : ℕ) → is_descriptor word ≡ true → is_depth (depth word) ≡ true
is_depth_of word h = (and_parts _ _ (and_parts _ _ (and_parts _ _ (and_parts _ _ h).0).0).0).1

depth_most_of : (n : ℕ) → is_depth n ≡ true → n ≤ 32
depth_most_of n h = grind (arith, nat_tests)

pub depth_fits : (word : ℕ) → is_descriptor word ≡ true → depth word ≤ 32
depth_fits word h = depth_most_of (depth word) (is_depth_of word h)

-- one more channel packed above the bits so far: part is what the lowest channel of rest takes
pub record Packs (rest raw shift part : ℕ) (colour : Colour) : Type 0 where
  pub room : shift < 32
  pub fits : shift + rest % 256 % 16 ≤ 32
  pub sum : raw + part * 2 ^ shift % 2 ^ 32 + 2 ^ (shift + rest % 256 % 16) * packed (channels (rest / 256)) colour ≡ raw + 2 ^ shift * packed (channels rest) colour
  pub below : raw + part * 2 ^ shift % 2 ^ 32 < 2 ^ (shift + rest % 256 % 16)

pub packs : (rest raw shift whole value part : ℕ) (colour : Colour) → rest < 2 ^ 32 → rest ≢ 0 → Sound rest → whole ≤ 32 → shift + depth rest ≡ whole → raw < 2 ^ shift → value < 256 → value ≡ component (rest % 256 / 16) colour → part ≡ value / 2 ^ (8 - rest % 256 % 16) → Packs rest raw shift part colour
packs rest raw shift whole value part colour h n low most room below byte value_is part_is =
    let bits = rest % 256 % 16 in
    let width : bits + (8 - bits) ≡ 8 = omega (arith, low.most) in
    let value_fits : value < 2 ^ (bits + (8 - bits)) = rw width byte in
    let part_fits : part < 2 ^ bits = rw part_is (shr_below value bits (8 - bits) value_fits) in
    let one = depth-step rest h n in
    let fits : shift + bits ≤ 32 = omega (arith, one) in
    let put = put_above raw part shift bits (packed (channels (rest / 256)) colour) below part_fits fits in
    let step : packed (channels rest) colour ≡ part + 2 ^ bits * packed (channels (rest / 256)) colour =
    packed-step rest colour h n ∙ ap (λ v. v / 2 ^ (8 - bits) + 2 ^ bits * packed (channels (rest / 256)) colour) (sym value_is) ∙ ap (λ v. v + 2 ^ bits * packed (channels (rest / 256)) colour) (sym part_is) in
    record {
      room = omega (arith, one, low.some);
      fits = fits;
      sum = put.sum ∙ ap (λ v. raw + 2 ^ shift * v) (sym step);
      below = put.below;
    }

pub same_channel : (c d : Channel) → c.kind ≡ d.kind → c.bits ≡ d.bits → c ≡ d
same_channel c d kind bits = λ i. record { kind = kind i; bits = bits i }
