-- What black and white become, drawn through a font, and what a copy leaves.
use Rattle.std.proofs.Common.{◌≡◌, ◌∙◌, ◌<◌, ℕ, Bool, true, ◌&&◌, eqb, ltb, refl, sym, ap, arith}
use Rattle.std.proofs.lemmas.Bool.{agree_below, agree_below_at, and_parts, eqb-true, ltb-true}
use Rattle.model_pixel.specs.Channels.{Colour, channels, expand, mask, pack, promoted}
use Rattle.model_pixel.specs.Composition.{comp, composed, mul}
use Rattle.model_clients.specs.page.Text.{grey8, rgb24}
use Rattle.model_clients.specs.page.Page.{inked, paper}

-- what black becomes on white, through a value of the font
abbrev drawn_ink : ℕ → ℕ
drawn_ink value = pack rgb24 (comp 11 (expand rgb24 0) (mask grey8 value) (expand rgb24 paper))

all_ink : agree_below (λ value. eqb (drawn_ink value) (inked value)) (λ value. true) 256 ≡ true
unfolding pack comp composed expand mask channels promoted inked
all_ink = refl

pub ink : (value : ℕ) → value < 256 → pack rgb24 (comp 11 (expand rgb24 0) (mask grey8 value) (expand rgb24 paper)) ≡ inked value
ink value lt = eqb-true _ _ (agree_below_at (λ value. eqb (drawn_ink value) (inked value)) (λ value. true) 256 value all_ink lt)

-- an opaque component, drawn over any
over : (s d da : ℕ) → s < 256 → composed 11 (mul s 255) (mul 255 255) d da ≡ s
unfolding composed
over s d da lt = omega arith

full_mask : mask rgb24 paper ≡ 255
unfolding expand mask channels promoted pack
full_mask = refl

-- the pixel has no alpha to lose, and says all of its colour
pub record IsOpaque (raw : ℕ) : Type 0 where
  pub r : (expand rgb24 raw).r < 256
  pub g : (expand rgb24 raw).g < 256
  pub b : (expand rgb24 raw).b < 256
  pub a : (expand rgb24 raw).a ≡ 255
  pub back : pack rgb24 (expand rgb24 raw) ≡ raw

-- a copy of such a pixel is the same, whatever was there
pub copy : (raw : ℕ) (under : Colour) → IsOpaque raw → pack rgb24 (comp 11 (expand rgb24 raw) (mask rgb24 paper) under) ≡ raw
unfolding comp
copy raw under opaque =
    let s : Colour = expand rgb24 raw in
    let same : pack rgb24 (record { r = s.r; g = s.g; b = s.b; a = 255 }) ≡ raw = ap (λ (a : ℕ). pack rgb24 (record { r = s.r; g = s.g; b = s.b; a = a })) (sym opaque.a) ∙ opaque.back in
    rw (
      full_mask,
      opaque.a,
      over s.r under.r under.a opaque.r,
      over s.g under.g under.a opaque.g,
      over s.b under.b under.a opaque.b,
      over 255 under.a under.a (omega arith),
    ) same

is_opaque : ℕ → Bool
is_opaque raw =
    ltb (expand rgb24 raw).r 256 && ltb (expand rgb24 raw).g 256 && ltb (expand rgb24 raw).b 256 && eqb (expand rgb24 raw).a 255
    && eqb (pack rgb24 (expand rgb24 raw)) raw

opaque_from : (raw : ℕ) → is_opaque raw ≡ true → IsOpaque raw
unfolding is_opaque
opaque_from raw all =
    let last = and_parts _ _ all in
    let fourth = and_parts _ _ last.0 in
    let third = and_parts _ _ fourth.0 in
    let second = and_parts _ _ third.0 in
    record {
      r = ltb-true _ _ second.0;
      g = ltb-true _ _ second.1;
      b = ltb-true _ _ third.1;
      a = eqb-true _ _ fourth.1;
      back = eqb-true _ _ last.1;
    }

pub paper_opaque : IsOpaque paper
unfolding is_opaque pack expand channels promoted
paper_opaque = opaque_from paper refl

all_opaque : agree_below (λ value. is_opaque (inked value)) (λ value. true) 256 ≡ true
unfolding is_opaque pack expand channels promoted inked
all_opaque = refl

pub inked_opaque : (value : ℕ) → value < 256 → IsOpaque (inked value)
inked_opaque value lt = opaque_from (inked value) (agree_below_at (λ value. is_opaque (inked value)) (λ value. true) 256 value all_opaque lt)
