-- What pixels keep when they are packed as they are read, and where nothing else is composed.
use Rattle.std.proofs.Common.{◌≡◌, ◌≢◌, ℕ, zero, suc, ◌+◌, ◌-◌, ◌*◌, ◌/◌, ◌%◌, ◌^◌, ◌<◌, ◌≤◌, min, Bool, true, ◌&&◌, List, [], ◌∷◌, ltb, refl, ap, sym, subst, ◌∙◌, arith, inl, inr}
use Rattle.std.specs.Prelude.{◌==◌, nat_le}
use Rattle.std.specs.List.{list_all}
use Rattle.std.specs.Int.Bits.{bit_and}
use Rattle.std.proofs.Math.Nat.{mod-eq_of_lt}
use Rattle.std.proofs.lemmas.Nat.{and_block, and_mask, shr_split}
use Rattle.std.proofs.lemmas.Bool.{agree_below, agree_below_at, eqb-true, ltb-true, ne_eqb, eq-eqb, cond-true, cond-false, cond_both, and_parts, or_cases, leb-true, cases_eq}
use Rattle.model_pixel.specs.Channels.{Colour, Channel, channels, colour_of, component, count_of, expand, is_channel, is_descriptor, is_kind, level, mask, pack, promoted}
use Rattle.model_pixel.specs.Composition.{mul, composed, comp, composed_raw}
use Rattle.r9_chan.proofs.ChannelLemmas.{are_channels_of, mask_by_alpha, mask_by_grey}
use Rattle.r9_mem.specs.Covering.{takes}
use Rattle.r9_mem.specs.Packing.{packed_by}
use Rattle.r9_mem.proofs.FieldLemmas.{and_none, bits-below, byte}
use Rattle.r9_mem.proofs.PackingLemmas.{Occurs, occurs_of, times_of, times-here, times-other, times-later, packed_is, none_shifted}

-- ---- promoted bits

abbrev keeps : ℕ → ℕ → Bool
keeps bits v = (promoted bits v / 2 ^ (8 - bits) == v) && ltb (promoted bits v) 256

kept_by : (bits v : ℕ) → bits ≤ 8 → v < 2 ^ bits → keeps bits v ≡ true
unfolding promoted
kept_by bits v most below =
    agree_below_at (keeps bits) (λ _. true) (2 ^ bits) v
    (agree_below_at (λ bits. agree_below (keeps bits) (λ _. true) (2 ^ bits)) (λ _. true) 9 bits refl (omega arith)) below

top_kept : (bits v : ℕ) → bits ≤ 8 → v < 2 ^ bits → promoted bits v / 2 ^ (8 - bits) ≡ v
top_kept bits v most below = eqb-true _ _ (and_parts _ _ (kept_by bits v most below)).0

promoted-below : (bits v : ℕ) → bits ≤ 8 → v < 2 ^ bits → promoted bits v < 256
promoted-below bits v most below = ltb-true _ _ (and_parts _ _ (kept_by bits v most below)).1

all_ones : (bits : ℕ) → bits ≤ 8 → 255 / 2 ^ (8 - bits) ≡ 2 ^ bits - 1
all_ones bits most = eqb-true _ _ (agree_below_at (λ bits. (255 / 2 ^ (8 - bits)) == (2 ^ bits - 1)) (λ _. true) 9 bits refl (omega arith))

-- ---- levels

most_of : (c : Channel) → is_channel c ≡ true → c.bits ≤ 8
most_of c h = leb-true _ _ (and_parts _ _ (and_parts _ _ h).1).1

level-below : (kind default : ℕ) (cs : List Channel) (raw : ℕ) → list_all is_channel cs ≡ true → default < 256 → level kind default cs raw < 256
level-below kind default [] raw all small = small
level-below kind default (c ∷ cs) raw all small =
    let parts = and_parts (is_channel c) (list_all is_channel cs) all in
    cond_both (c.kind == kind) (promoted c.bits (raw % 2 ^ c.bits)) (level kind default cs (raw / 2 ^ c.bits)) (λ n. n < 256)
    (λ _. promoted-below c.bits (raw % 2 ^ c.bits) (most_of c parts.0) (bits-below raw c.bits))
    (λ _. level-below kind default cs (raw / 2 ^ c.bits) parts.1 small)

-- of a kind that occurs the default does not matter
level-occurs : (kind d e : ℕ) (cs : List Channel) (raw : ℕ) → 1 ≤ times_of kind cs → level kind d cs raw ≡ level kind e cs raw
level-occurs kind d e [] raw some = absurd (omega arith)
level-occurs kind d e (c ∷ cs) raw some =
    elim (cases_eq c.kind kind) [
      | inl same ↦ cond-true (c.kind == kind) _ _ (eq-eqb _ _ same) ∙ sym (cond-true (c.kind == kind) _ _ (eq-eqb _ _ same))
      | inr other ↦
          let fewer = times-other kind c cs other in
          cond-false (c.kind == kind) _ _ (ne_eqb _ _ other)
          ∙ level-occurs kind d e cs (raw / 2 ^ c.bits) (omega (arith, fewer))
          ∙ sym (cond-false (c.kind == kind) _ _ (ne_eqb _ _ other))
    ]

-- and of one that does not the default stands
pub level-absent : (kind d : ℕ) (cs : List Channel) (raw : ℕ) → times_of kind cs ≡ 0 → level kind d cs raw ≡ d
level-absent kind d [] raw none = refl
level-absent kind d (c ∷ cs) raw none =
    let more = times-later kind c cs in
    cond-false (c.kind == kind) _ _ (ne_eqb _ _ (λ same. let here = times-here kind c cs same in omega (arith, here, none)))
    ∙ level-absent kind d cs (raw / 2 ^ c.bits) (omega (arith, more, none))

-- ---- what is kept

abbrev white : Colour
white = record { r = 255; g = 255; b = 255; a = 255 }

white_is : (kind : ℕ) → kind ≤ 4 → component kind white ≡ 255
white_is zero h = refl
white_is (suc zero) h = refl
white_is (suc (suc zero)) h = refl
white_is (suc (suc (suc zero))) h = refl
white_is (suc (suc (suc (suc zero)))) h = refl
white_is (suc (suc (suc (suc (suc k))))) h = absurd (omega arith)

-- the low bits of a pixel under those of a mask, and the others under the others
and_above : (raw low high bits : ℕ) → low < 2 ^ bits → bit_and raw (low + 2 ^ bits * high) ≡ bit_and (raw % 2 ^ bits) low + 2 ^ bits * bit_and (raw / 2 ^ bits) high
and_above raw low high bits small =
    let swap : low + 2 ^ bits * high ≡ high * 2 ^ bits + low = omega arith in
    (λ i. bit_and (sym (shr_split raw bits) i) (swap i))
    ∙ and_block bits (raw / 2 ^ bits) high (raw % 2 ^ bits) low (bits-below raw bits) small
    ∙ omega arith

-- a kind that a pixel shows
abbrev pub Shows : ℕ → Type 0
Shows kind = kind ≤ 4

kept : (f : ℕ → ℕ) (cs : List Channel) (raw : ℕ) → list_all is_channel cs ≡ true → f 6 ≡ 0
    → ((kind : ℕ) → kind ≤ 4 → times_of kind cs ≤ 1)
    → ((kind : ℕ) → kind ≤ 4 → 1 ≤ times_of kind cs → f kind ≡ level kind 0 cs raw)
    → packed_by f cs ≡ bit_and raw (packed_by (λ kind. component kind white) cs)
kept f [] raw all ignored once told = sym (and_none raw)
kept f (c ∷ cs) raw all ignored once told =
    let parts = and_parts (is_channel c) (list_all is_channel cs) all in
    let most = most_of c parts.0 in
    let w = λ (kind : ℕ). component kind white in
    let rest = kept f cs (raw / 2 ^ c.bits) parts.1 ignored
    (λ kind shows. let more = times-later kind c cs in let one = once kind shows in omega (arith, more, one))
    (λ kind shows some.
    let one = once kind shows in
    let other : c.kind ≢ kind = λ same. let here = times-here kind c cs same in omega (arith, here, some, one) in
    let more = times-later kind c cs in
    told kind shows (omega (arith, more, some)) ∙ cond-false (c.kind == kind) _ _ (ne_eqb _ _ other)) in
    let low : (f c.kind / 2 ^ (8 - c.bits) ≡ bit_and (raw % 2 ^ c.bits) (w c.kind / 2 ^ (8 - c.bits))) × (w c.kind / 2 ^ (8 - c.bits) < 2 ^ c.bits) =
    elim (or_cases (nat_le c.kind 4) (c.kind == 6) (and_parts (is_kind c.kind) _ parts.0).0) [
      | inl shows ↦
          let kind = leb-true c.kind 4 shows in
          let here = times-here c.kind c cs refl in
          let v = raw % 2 ^ c.bits in
          let is : f c.kind ≡ promoted c.bits v = told c.kind kind (omega (arith, here)) ∙ cond-true (c.kind == c.kind) _ _ (eq-eqb _ _ refl) in
          let ones : w c.kind / 2 ^ (8 - c.bits) ≡ 2 ^ c.bits - 1 = ap (λ (n : ℕ). n / 2 ^ (8 - c.bits)) (white_is c.kind kind) ∙ all_ones c.bits most in (
            ap (λ (n : ℕ). n / 2 ^ (8 - c.bits)) is
                ∙ top_kept c.bits v most (bits-below raw c.bits)
                ∙ sym (ap (bit_and v) ones ∙ and_mask v c.bits ∙ mod-eq_of_lt (bits-below raw c.bits)),
            (let pos = bits-below raw c.bits in omega (arith, ones, pos)),
          )
      | inr six ↦
          let kind : c.kind ≡ 6 = eqb-true _ _ six in
          let none : f c.kind ≡ 0 = ap f kind ∙ ignored in
          let dark : w c.kind ≡ 0 = ap w kind in
          let zeros : w c.kind / 2 ^ (8 - c.bits) ≡ 0 = none_shifted (w c.kind) (8 - c.bits) dark in (
            none_shifted (f c.kind) (8 - c.bits) none ∙ sym (ap (bit_and (raw % 2 ^ c.bits)) zeros ∙ and_none (raw % 2 ^ c.bits)),
            (let pos = bits-below raw c.bits in omega (arith, zeros, pos)),
          )
    ] in
    (λ i. low.0 i + 2 ^ c.bits * rest i)
    ∙ sym (and_above raw (w c.kind / 2 ^ (8 - c.bits)) (packed_by w cs) c.bits low.1)

once_of : (w : ℕ) → Occurs w → (kind : ℕ) → kind ≤ 4 → count_of kind w ≤ 1
once_of w o zero h = o.reds
once_of w o (suc zero) h = o.greens
once_of w o (suc (suc zero)) h = o.blues
once_of w o (suc (suc (suc zero))) h = o.greys
once_of w o (suc (suc (suc (suc zero)))) h = o.alphas
once_of w o (suc (suc (suc (suc (suc k))))) h = absurd (omega arith)

same_grey : (g r v b : ℕ) → g < 256 → r ≡ g → v ≡ g → b ≡ g → (156763 * r + 307758 * v + 59769 * b) / 524288 ≡ g
same_grey g r v b small e f h = omega (arith, small, e, f, h)

told_of : (w raw : ℕ) → list_all is_channel (channels w) ≡ true → Occurs w → (kind : ℕ) → kind ≤ 4 → 1 ≤ count_of kind w → component kind (expand w raw) ≡ level kind 0 (channels w) raw
unfolding expand
told_of w raw all o zero h some = level-occurs 0 _ 0 (channels w) raw some
told_of w raw all o (suc zero) h some = level-occurs 1 _ 0 (channels w) raw some
told_of w raw all o (suc (suc zero)) h some = level-occurs 2 _ 0 (channels w) raw some
told_of w raw all o (suc (suc (suc zero))) h some =
    let cs = channels w in
    let g = level 3 0 cs raw in
    same_grey g (level 0 g cs raw) (level 1 g cs raw) (level 2 g cs raw) (level-below 3 0 cs raw all (omega arith))
    (level-absent 0 g cs raw (o.no_red some)) (level-absent 1 g cs raw (o.no_green some)) (level-absent 2 g cs raw (o.no_blue some))
told_of w raw all o (suc (suc (suc (suc zero)))) h some = level-occurs 4 255 0 (channels w) raw some
told_of w raw all o (suc (suc (suc (suc (suc k))))) h some = absurd (omega arith)

-- A pixel that is read and written under the same channels keeps all but its ignored bits.
pub moved : (w raw : ℕ) → is_descriptor w ≡ true → bit_and raw (pack w (colour_of 4294967295)) ≡ pack w (expand w raw)
unfolding pack
moved w raw is =
    let all = are_channels_of w is in
    let o = occurs_of w is in
    let cs = channels w in
    ap (bit_and raw) (sym (packed_is white cs))
    ∙ sym (kept (λ kind. component kind (expand w raw)) cs raw all refl (once_of w o) (told_of w raw all o))
    ∙ packed_is (expand w raw) cs

-- ---- what is composed

pub record Small (c : Colour) : Type 0 where
  pub r : c.r < 256
  pub g : c.g < 256
  pub b : c.b < 256
  pub a : c.a < 256

pub expand-small : (w raw : ℕ) → is_descriptor w ≡ true → Small (expand w raw)
unfolding expand
expand-small w raw is =
    let all = are_channels_of w is in
    let cs = channels w in
    let grey = level-below 3 0 cs raw all (omega arith) in
    record {
      r = level-below 0 _ cs raw all grey;
      g = level-below 1 _ cs raw all grey;
      b = level-below 2 _ cs raw all grey;
      a = level-below 4 255 cs raw all (omega arith);
    }

full_mask : (x : ℕ) → mul x 255 ≡ x
full_mask x = omega arith

source_alone : (x : ℕ) → x < 256 → min 255 (x + 0) ≡ x
source_alone x h = omega arith

under_full : (x d : ℕ) → x < 256 → min 255 (x + mul d (255 - 255)) ≡ x
under_full x d h = omega arith

composed_taken : (op x alpha d da : ℕ) → takes op alpha ≡ true → x < 256 → composed op (mul x 255) (mul alpha 255) d da ≡ x
unfolding composed
composed_taken op x alpha d da h small =
    elim (or_cases (op == 10) ((op == 11) && (alpha == 255)) h) [
      | inl source ↦
          subst (λ op. composed op (mul x 255) (mul alpha 255) d da ≡ x) (sym (eqb-true op 10 source))
          (ap (λ x. min 255 (x + 0)) (full_mask x) ∙ source_alone x small)
      | inr over ↦
          let parts = and_parts (op == 11) (alpha == 255) over in
          let full : mul alpha 255 ≡ 255 = full_mask alpha ∙ eqb-true alpha 255 parts.1 in
          subst (λ op. composed op (mul x 255) (mul alpha 255) d da ≡ x) (sym (eqb-true op 11 parts.0))
          ((λ i. min 255 (full_mask x i + mul d (255 - full i))) ∙ under_full x d small)
    ]

comp_taken : (op : ℕ) (s d : Colour) → takes op s.a ≡ true → Small s → comp op s 255 d ≡ s
unfolding comp
comp_taken op s d h small = λ i. record {
  r = composed_taken op s.r s.a d.r d.a h small.r i;
  g = composed_taken op s.g s.a d.g d.a h small.g i;
  b = composed_taken op s.b s.a d.b d.a h small.b i;
  a = (ap (λ (x : ℕ). composed op x (mul s.a 255) d.a d.a) refl ∙ composed_taken op s.a s.a d.a d.a h small.a) i;
}

-- Where an operator takes the source, the pixel is the source's colour packed.
pub taken : (dst src chan op s m d : ℕ) → is_descriptor src ≡ true → takes op (expand src s).a ≡ true → mask chan m ≡ 255 → composed_raw dst src chan op s m d ≡ pack dst (expand src s)
unfolding composed_raw
taken dst src chan op s m d is h full =
    ap (λ (m : ℕ). pack dst (comp op (expand src s) m (expand dst d))) full
    ∙ ap (pack dst) (comp_taken op (expand src s) (expand dst d) h (expand-small src s is))

-- Through a full mask SoverD does not look at it.
pub over_full : (dst src chan s m d : ℕ) → mask chan m ≡ 255 → pack dst (comp 11 (expand src s) 255 (expand dst d)) ≡ composed_raw dst src chan 11 s m d
unfolding composed_raw
over_full dst src chan s m d full = ap (λ (m : ℕ). pack dst (comp 11 (expand src s) m (expand dst d))) (sym full)

pub opaque_takes : (w s : ℕ) → count_of 4 w ≡ 0 → takes 11 (expand w s).a ≡ true
unfolding expand
opaque_takes w s none = ap (λ (a : ℕ). takes 11 a) (level-absent 4 255 (channels w) s none)

-- ---- mask values

-- of channels with an alpha
pub mask_alpha : (chan raw : ℕ) → count_of 4 chan ≢ 0 → mask chan raw ≡ level 4 255 (channels chan) raw
unfolding expand
mask_alpha chan raw some = mask_by_alpha chan raw some

-- of a grey without alpha
pub mask_grey : (chan raw : ℕ) → is_descriptor chan ≡ true → count_of 4 chan ≡ 0 → count_of 3 chan ≢ 0 → mask chan raw ≡ level 3 0 (channels chan) raw
mask_grey chan raw is none some =
    mask_by_grey chan raw none
    ∙ told_of chan raw (are_channels_of chan is) (occurs_of chan is) 3 (omega arith) (omega (arith, some))

-- of a byte of grey the mask value is the byte
pub grey_mask : (v : ℕ) → v < 256 → mask 56 v ≡ v
unfolding channels
grey_mask v small =
    let low : v % 256 ≡ v = omega arith in
    mask_grey 56 v refl refl (λ none. omega (arith, none)) ∙ sym (byte (v % 256) (omega arith)) ∙ low
