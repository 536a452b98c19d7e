-- Channels packed from a value for each kind, and what descriptors tell of how often a kind occurs.
use Rattle.std.proofs.Common.{◌≡◌, ◌≢◌, ℕ, ◌+◌, ◌-◌, ◌*◌, ◌/◌, ◌%◌, ◌^◌, ◌<◌, ◌≤◌, true, ◌&&◌, ◌||◌, List, [], ◌∷◌, cond, refl, ap, sym, subst, ◌∙◌, arith, inl, inr, zero-add}
use Rattle.std.specs.Prelude.{◌==◌, nat_le, if◌then◌else◌}
use Rattle.std.specs.List.{count_by, sum_by, list_all}
use Rattle.std.proofs.lemmas.List.Sums.{sum_by-cons}
use Rattle.std.proofs.lemmas.Nat.{shr_below, shr_le, shr-shr, mul-add-lt, pow-add, field_of}
use Rattle.std.proofs.lemmas.Bool.{ne_eqb, eq-eqb, cond-false, cond_both, and_parts, leb-true, cases_eq}
use Rattle.std.proofs.lemmas.Bool.Decides.{nat_tests}
use Rattle.model_pixel.specs.Channels.{Colour, Channel, channel, channels, component, colour_of, count_of, depth, grey_of, is_channel, is_descriptor, is_kind, packed, pack}
use Rattle.r9_chan.proofs.ChannelLemmas.{channels_none, channels-step, are_channels-step, depth-step, depth_none}
use Rattle.std.specs.Int.Bits.{bit_and}
use Rattle.r9_mem.specs.Fields.{greyed}
use Rattle.r9_mem.specs.Packing.{packed_by, shown}
use Rattle.r9_mem.proofs.FieldLemmas.{masked}

-- how often a kind occurs
abbrev pub times_of : ℕ → List Channel → ℕ
times_of kind cs = count_by (λ c. c.kind == kind) cs

pub times-cons : (kind : ℕ) (c : Channel) (cs : List Channel) → times_of kind (c ∷ cs) ≡ cond (c.kind == kind) 1 0 + times_of kind cs
times-cons kind c cs = sum_by-cons (λ (c : Channel). cond (c.kind == kind) 1 0) c cs

pub times-here : (kind : ℕ) (c : Channel) (cs : List Channel) → c.kind ≡ kind → times_of kind (c ∷ cs) ≡ 1 + times_of kind cs
times-here kind c cs same = times-cons kind c cs ∙ ap (λ b. cond b 1 0 + times_of kind cs) (eq-eqb _ _ same)

pub times-other : (kind : ℕ) (c : Channel) (cs : List Channel) → c.kind ≢ kind → times_of kind (c ∷ cs) ≡ times_of kind cs
times-other kind c cs other = times-cons kind c cs ∙ ap (λ b. cond b 1 0 + times_of kind cs) (ne_eqb _ _ other) ∙ zero-add _

pub times-later : (kind : ℕ) (c : Channel) (cs : List Channel) → times_of kind cs ≤ times_of kind (c ∷ cs)
times-later kind c cs = let e = times-cons kind c cs in omega (arith, e)

pub packed_is : (colour : Colour) (cs : List Channel) → packed_by (λ kind. component kind colour) cs ≡ packed cs colour
packed_is colour [] = refl
packed_is colour (c ∷ cs) = ap (λ (n : ℕ). component c.kind colour / 2 ^ (8 - c.bits) + 2 ^ c.bits * n) (packed_is colour cs)

pub packed_agree : (f g : ℕ → ℕ) (cs : List Channel) → ((kind : ℕ) → 1 ≤ times_of kind cs → f kind ≡ g kind) → packed_by f cs ≡ packed_by g cs
packed_agree f g [] h = refl
packed_agree f g (c ∷ cs) h =
    let here = times-here c.kind c cs refl in
    let one = h c.kind (omega (arith, here)) in
    let rest = packed_agree f g cs (λ kind some. let more = times-later kind c cs in h kind (omega (arith, more, some))) in
    λ i. one i / 2 ^ (8 - c.bits) + 2 ^ c.bits * rest i

pub packed_small : (f : ℕ → ℕ) → ((kind : ℕ) → f kind < 256) → (cs : List Channel) → list_all is_channel cs ≡ true → packed_by f cs < 2 ^ sum_by (λ c. c.bits) cs
packed_small f below [] all = omega arith
packed_small f below (c ∷ cs) all =
    let parts = and_parts (is_channel c) (list_all is_channel cs) all in
    let most : c.bits ≤ 8 = leb-true c.bits 8 (and_parts (nat_le 1 c.bits) (nat_le c.bits 8) (and_parts (is_kind c.kind) (nat_le 1 c.bits && nat_le c.bits 8) parts.0).1).1 in
    let width : c.bits + (8 - c.bits) ≡ 8 = omega arith in
    let fits : f c.kind < 2 ^ (c.bits + (8 - c.bits)) = rw width (below c.kind) in
    let part = shr_below (f c.kind) c.bits (8 - c.bits) fits in
    let rest = packed_small f below cs parts.1 in
    let low = f c.kind / 2 ^ (8 - c.bits) in
    let high = packed_by f cs in
    let sum = mul-add-lt high (2 ^ c.bits) low (2 ^ sum_by (λ c. c.bits) cs) rest part in
    let bits = sum_by-cons (λ (c : Channel). c.bits) c cs in
    rw (bits, pow-add 2 c.bits (sum_by (λ c. c.bits) cs)) (omega (arith, sum))

-- ---- byte by byte

pub record Low (w : ℕ) : Type 0 where
  pub most : w % 256 % 16 ≤ 8
  pub others : list_all is_channel (channels (w / 256)) ≡ true
  pub depth : depth w ≡ w % 256 % 16 + depth (w / 256)

pub low_of : (w : ℕ) → w < 2 ^ 32 → list_all is_channel (channels w) ≡ true → Low w
low_of w h all =
    elim (cases_eq w 0) [
      | inl none ↦
          let over : w / 256 ≡ 0 = omega arith in
          record {
            most = omega arith;
            others = ap (λ (n : ℕ). list_all is_channel (channels n)) (over ∙ sym none) ∙ all;
            depth = depth_none w none ∙ (let e = depth_none (w / 256) over in omega (arith, e, none));
          }
      | inr some ↦
          let parts = and_parts (is_channel (channel (w % 256))) _ (sym (are_channels-step w h some) ∙ all) in
          record {
            most = leb-true _ _ (and_parts _ _ (and_parts _ _ parts.0).1).1;
            others = parts.1;
            depth = depth-step w h some;
          }
    ]

pub packed_byte : (f : ℕ → ℕ) → f 0 < 256 → (w : ℕ) → w < 2 ^ 32
    → packed_by f (channels w) ≡ f (w % 256 / 16) / 2 ^ (8 - w % 256 % 16) + 2 ^ (w % 256 % 16) * packed_by f (channels (w / 256))
packed_byte f below w h =
    elim (cases_eq w 0) [
      | inl none ↦
          let top : f 0 / 256 ≡ 0 = omega arith in
          let zeros : packed_by f (channels 0) ≡ f 0 / 256 + 1 * packed_by f (channels 0) = omega (arith, top) in
          subst (λ (w : ℕ). packed_by f (channels w) ≡ f (w % 256 / 16) / 2 ^ (8 - w % 256 % 16) + 2 ^ (w % 256 % 16) * packed_by f (channels (w / 256))) (sym none) zeros
      | inr some ↦ ap (packed_by f) (channels-step w h some)
    ]

-- four parts side by side
pub four_parts : (p q r s a b c d : ℕ) → p * 2 ^ 0 + q * 2 ^ a + r * 2 ^ (a + b) + s * 2 ^ (a + b + c) ≡ p + 2 ^ a * (q + 2 ^ b * (r + 2 ^ c * (s + 2 ^ d * 0)))
four_parts p q r s a b c d =
    rw (pow-add 2 (a + b) c, pow-add 2 a b) (omega arith)

abbrev part_of : (ℕ → ℕ) → ℕ → ℕ
part_of f byte = f (byte / 16) / 2 ^ (8 - byte % 16)

-- the channels of the bytes of a word
abbrev side_by_side : (ℕ → ℕ) → ℕ → ℕ → ℕ → ℕ → ℕ
side_by_side f p q r s =
    part_of f p + 2 ^ (p % 16) * (part_of f q + 2 ^ (q % 16) * (part_of f r + 2 ^ (r % 16) * (part_of f s + 2 ^ (s % 16) * 0)))

pub packed_bytes : (f : ℕ → ℕ) → f 0 < 256 → (w : ℕ) → w < 2 ^ 32 → (p q r s : ℕ) → w % 256 ≡ p → w / 256 % 256 ≡ q → w / 65536 % 256 ≡ r → w / 16777216 ≡ s
    → part_of f p * 2 ^ 0 + part_of f q * 2 ^ (p % 16) + part_of f r * 2 ^ (p % 16 + q % 16) + part_of f s * 2 ^ (p % 16 + q % 16 + r % 16) ≡ packed_by f (channels w)
packed_bytes f below w h p q r s ep eq er es =
    let v = w / 256 in
    let u = v / 256 in
    let t = u / 256 in
    let er' : u % 256 ≡ r = omega (arith, er) in
    let es' : t % 256 ≡ s = omega (arith, es) in
    let last : packed_by f (channels (t / 256)) ≡ 0 = ap (λ (n : ℕ). packed_by f (channels n)) (omega arith) ∙ ap (packed_by f) channels_none in
    let whole = packed_byte f below w h
    ∙ ap (λ (n : ℕ). part_of f (w % 256) + 2 ^ (w % 256 % 16) * n) (packed_byte f below v (omega arith)
    ∙ ap (λ (n : ℕ). part_of f (v % 256) + 2 ^ (v % 256 % 16) * n) (packed_byte f below u (omega arith)
    ∙ ap (λ (n : ℕ). part_of f (u % 256) + 2 ^ (u % 256 % 16) * n) (packed_byte f below t (omega arith)
    ∙ ap (λ (n : ℕ). part_of f (t % 256) + 2 ^ (t % 256 % 16) * n) last))) in
    four_parts (part_of f p) (part_of f q) (part_of f r) (part_of f s) (p % 16) (q % 16) (r % 16) (s % 16)
    ∙ sym (whole ∙ (λ i. side_by_side f (ep i) (eq i) (er' i) (es' i)))

-- the bits of a word's channels
pub record Bits (w : ℕ) : Type 0 where
  pub first : w % 256 % 16 ≤ 8
  pub second : w / 256 % 256 % 16 ≤ 8
  pub third : w / 65536 % 256 % 16 ≤ 8
  pub fourth : w / 16777216 % 16 ≤ 8
  pub sum : depth w ≡ w % 256 % 16 + w / 256 % 256 % 16 + w / 65536 % 256 % 16 + w / 16777216 % 16

pub bits_of : (w : ℕ) → w < 2 ^ 32 → list_all is_channel (channels w) ≡ true → Bits w
bits_of w h all =
    let v = w / 256 in
    let u = v / 256 in
    let t = u / 256 in
    let a = low_of w h all in
    let b = low_of v (omega arith) a.others in
    let c = low_of u (omega arith) b.others in
    let d = low_of t (omega arith) c.others in
    let none = depth_none (t / 256) (omega arith) in
    let third : u % 256 % 16 ≡ w / 65536 % 256 % 16 = omega arith in
    let fourth : t % 256 % 16 ≡ w / 16777216 % 16 = omega arith in
    record {
      first = a.most;
      second = b.most;
      third = (let most = c.most in omega (arith, most, third));
      fourth = (let most = d.most in omega (arith, most, fourth));
      sum = (let ad = a.depth in let bd = b.depth in let cd = c.depth in let dd = d.depth in omega (arith, ad, bd, cd, dd, none, third, fourth));
    }

-- ---- which kinds occur

colouring-apart : (k r g b a : ℕ)
    → (((k == 1) && (r == 0) && (g == 0) && (b == 0)) || ((k == 0) && (r == 1) && (g == 1) && (b == 1)) || ((k == 0) && (r == 0) && (g == 0) && (b == 0) && (a == 1))) ≡ true
    → (k ≤ 1) × (r ≤ 1) × (g ≤ 1) × (b ≤ 1) × (1 ≤ k → r ≡ 0) × (1 ≤ k → g ≡ 0) × (1 ≤ k → b ≡ 0)
colouring-apart k r g b a h = grind (arith, nat_tests)

pub record Occurs (w : ℕ) : Type 0 where
  pub greys : count_of 3 w ≤ 1
  pub reds : count_of 0 w ≤ 1
  pub greens : count_of 1 w ≤ 1
  pub blues : count_of 2 w ≤ 1
  pub alphas : count_of 4 w ≤ 1
  pub no_red : 1 ≤ count_of 3 w → count_of 0 w ≡ 0
  pub no_green : 1 ≤ count_of 3 w → count_of 1 w ≡ 0
  pub no_blue : 1 ≤ count_of 3 w → count_of 2 w ≡ 0

pub occurs_of : (w : ℕ) → is_descriptor w ≡ true → Occurs w
occurs_of w h =
    let parts = and_parts _ _ h in
    let alphas = and_parts _ _ parts.0 in
    let colours = and_parts _ _ alphas.0 in
    let apart = colouring-apart (count_of 3 w) (count_of 0 w) (count_of 1 w) (count_of 2 w) (count_of 4 w) colours.1 in
    record {
      greys = apart.0;
      reds = apart.1;
      greens = apart.2;
      blues = apart.3;
      alphas = leb-true _ _ alphas.1;
      no_red = apart.4;
      no_green = apart.5;
      no_blue = apart.6;
    }

-- ---- places

-- the bits of a packed colour from a place on are the top bits of what starts there
pub top_bits : (word start bits value : ℕ) → bits ≤ 8 → word / 2 ^ start % 256 ≡ value
    → bit_and (word / 2 ^ (start + 8 - bits)) (1 * 2 ^ bits % 2 ^ 32 - 1) ≡ value / 2 ^ (8 - bits)
top_bits word start bits value most is =
    let above : start + 8 - bits ≡ start + (8 - bits) = omega arith in
    let width : bits + (8 - bits) ≡ 8 = omega arith in
    masked (word / 2 ^ (start + 8 - bits)) bits (omega arith)
    ∙ ap (λ (n : ℕ). word / 2 ^ n % 2 ^ bits) above
    ∙ ap (λ (n : ℕ). n % 2 ^ bits) (sym (shr-shr word start (8 - bits)))
    ∙ sym (field_of (word / 2 ^ start) bits (8 - bits))
    ∙ ap (λ (n : ℕ). word / 2 ^ start % 2 ^ n / 2 ^ (8 - bits)) width
    ∙ ap (λ (n : ℕ). n / 2 ^ (8 - bits)) is

pub none_shifted : (n k : ℕ) → n ≡ 0 → n / 2 ^ k ≡ 0
none_shifted n k none = let least = shr_le n k in omega (arith, least, none)

grey-below : (c : Colour) → c.r < 256 → c.g < 256 → c.b < 256 → grey_of c < 256
grey-below c r g b = omega (arith, r, g, b)

pub component-below : (c : Colour) (kind : ℕ) → c.r < 256 → c.g < 256 → c.b < 256 → c.a < 256 → component kind c < 256
component-below c kind r g b a =
    cond_both (kind == 0) c.r _ (λ n. n < 256) (λ _. r)
    (λ _. cond_both (kind == 1) c.g _ (λ n. n < 256) (λ _. g)
    (λ _. cond_both (kind == 2) c.b _ (λ n. n < 256) (λ _. b)
    (λ _. cond_both (kind == 3) (grey_of c) _ (λ n. n < 256) (λ _. grey-below c r g b)
    (λ _. cond_both (kind == 4) c.a 0 (λ n. n < 256) (λ _. a) (λ _. omega arith)))))

pub shown-below : (word kind : ℕ) → shown (colour_of word) kind < 256
shown-below word kind = component-below (colour_of word) (if kind == 3 then 0 else kind) (omega arith) (omega arith) (omega arith) (omega arith)

shown_plain : (c : Colour) (kind : ℕ) → kind ≢ 3 → shown c kind ≡ component kind c
shown_plain c kind other = ap (λ (k : ℕ). component k c) (cond-false (kind == 3) 0 kind (ne_eqb kind 3 other))

component_same : (c d : Colour) (kind : ℕ) → kind ≢ 0 → kind ≢ 3 → c.g ≡ d.g → c.b ≡ d.b → c.a ≡ d.a → component kind c ≡ component kind d
component_same c d kind no_red no_grey g b a =
    let tail : (if kind == 3 then grey_of c else (if kind == 4 then c.a else 0)) ≡ (if kind == 3 then grey_of d else (if kind == 4 then d.a else 0)) =
    cond-false (kind == 3) _ _ (ne_eqb kind 3 no_grey) ∙ ap (λ (a : ℕ). if kind == 4 then a else 0) a ∙ sym (cond-false (kind == 3) _ _ (ne_eqb kind 3 no_grey))
    in
    cond-false (kind == 0) c.r _ (ne_eqb kind 0 no_red)
    ∙ (λ i. if kind == 1 then g i else (if kind == 2 then b i else tail i))
    ∙ sym (cond-false (kind == 0) d.r _ (ne_eqb kind 0 no_red))

occurring : (kind other : ℕ) (cs : List Channel) → 1 ≤ times_of kind cs → times_of other cs ≡ 0 → kind ≢ other
occurring kind other cs some none same =
    let there = subst (λ (k : ℕ). 1 ≤ times_of k cs) same some in omega (arith, there, none)

-- where no channel is grey
pub colours_packed : (w word : ℕ) → count_of 3 w ≡ 0 → packed_by (shown (colour_of word)) (channels w) ≡ pack w (colour_of word)
unfolding pack
colours_packed w word none =
    let c = colour_of word in
    packed_agree (shown c) (λ kind. component kind c) (channels w) (λ kind some. shown_plain c kind (occurring kind 3 (channels w) some none))
    ∙ packed_is c (channels w)

greyed_is : (word : ℕ) → colour_of (greyed word) ≡ record { r = grey_of (colour_of word); g = word / 2 ^ 16 % 256; b = word / 2 ^ 8 % 256; a = word % 256 }
greyed_is word =
    let c = colour_of word in
    let n = grey_of c in
    let small : n < 256 = grey-below c (omega arith) (omega arith) (omega arith) in
    let low = word % 16777216 in
    let r : (n * 16777216 + low) / 16777216 % 256 ≡ n = omega (arith, small) in
    let g : (n * 16777216 + low) / 65536 % 256 ≡ word / 65536 % 256 = omega arith in
    let b : (n * 16777216 + low) / 256 % 256 ≡ word / 256 % 256 = omega arith in
    let a : (n * 16777216 + low) % 256 ≡ word % 256 = omega arith in
    λ i. record { r = r i; g = g i; b = b i; a = a i }

-- and where none is red
pub greys_packed : (w word : ℕ) → count_of 0 w ≡ 0 → packed_by (shown (colour_of (greyed word))) (channels w) ≡ pack w (colour_of word)
unfolding pack
greys_packed w word none =
    let c = colour_of word in
    let d : Colour = record { r = grey_of c; g = c.g; b = c.b; a = c.a } in
    let cs = channels w in
    let same : (kind : ℕ) → 1 ≤ times_of kind cs → shown d kind ≡ component kind c = λ kind some.
    elim (cases_eq kind 3) [
      | inl grey ↦ subst (λ (k : ℕ). shown d k ≡ component k c) (sym grey) refl
      | inr other ↦ shown_plain d kind other ∙ component_same d c kind (occurring kind 0 cs some none) other refl refl refl
    ] in
    ap (λ (v : Colour). packed_by (shown v) cs) (greyed_is word)
    ∙ packed_agree (shown d) (λ kind. component kind c) cs same
    ∙ packed_is c cs

-- k8
pub grey_packed : (word : ℕ) → grey_of (colour_of word) ≡ pack 0x38 (colour_of word)
unfolding pack channels
grey_packed word = omega arith
