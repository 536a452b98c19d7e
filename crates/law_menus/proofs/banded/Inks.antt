-- The colours of the bands are drawn as they are, and a point of a band gets its band's.
use Rattle.std.proofs.Common.{◌≡◌, ◌∙◌, ◌<◌, ◌+◌, ◌*◌, ℕ, zero, suc, Bool, true, false, ◌&&◌, cond, eqb, ltb, inl, inr, refl, sym, ap, subst, arith}
use Rattle.std.proofs.lemmas.Bool.{agree_below, agree_below_at, and_parts, cases_eq, eqb-true, ltb-true}
use Rattle.r9_geom.specs.declared.Point.{Point}
use Rattle.r9_geom.specs.Geometry.{holds}
use Rattle.model_pixel.specs.Channels.{channels, expand, pack, promoted}
use Rattle.law_shown.proofs.shown.Tests.{not-true}
use Rattle.model_clients.specs.page.Text.{rgb24}
use Rattle.law_text.proofs.page.Colours.{IsOpaque}
use Rattle.law_text.proofs.page.Spots.{held_in_box, spot_in}
use Rattle.law_menus.specs.banded.Banded.{band_box, ink, shaded}

is_opaque : ℕ → Bool
is_opaque raw =
    ltb (expand rgb24 raw).r 256 && ltb (expand rgb24 raw).g 256 && ltb (expand rgb24 raw).b 256 && eqb (expand rgb24 raw).a 255
    && eqb (pack rgb24 (expand rgb24 raw)) raw

opaque_from : (raw : ℕ) → is_opaque raw ≡ true → IsOpaque raw
unfolding is_opaque
opaque_from raw all =
    let last = and_parts _ _ all in
    let fourth = and_parts _ _ last.0 in
    let third = and_parts _ _ fourth.0 in
    let second = and_parts _ _ third.0 in
    record {
      r = ltb-true _ _ second.0;
      g = ltb-true _ _ second.1;
      b = ltb-true _ _ third.1;
      a = eqb-true _ _ fourth.1;
      back = eqb-true _ _ last.1;
    }

all_opaque : agree_below (λ item. is_opaque (ink item)) (λ item. true) 5 ≡ true
unfolding is_opaque pack expand channels promoted
all_opaque = refl

pub ink_opaque : (item : ℕ) → item < 5 → IsOpaque (ink item)
ink_opaque item few = opaque_from (ink item) (agree_below_at (λ item. is_opaque (ink item)) (λ item. true) 5 item all_opaque few)

-- no point is in two bands
bands_apart : (x y item other : ℕ) (p : Point) → item < other → holds (band_box x y item) p ≡ true → holds (band_box x y other) p ≡ true → ⊥
bands_apart x y item other p before one two =
    let at = spot_in (x + 4) (y + 4 + 16 * item) (x + 44) (y + 20 + 16 * item) p one in
    let upper = (held_in_box (x + 4) (y + 4 + 16 * item) (x + 44) (y + 20 + 16 * item) at.x at.y (subst (λ (q : Point). holds (band_box x y item) q ≡ true) at.is one)).bottom in
    let lower = (held_in_box (x + 4) (y + 4 + 16 * other) (x + 44) (y + 20 + 16 * other) at.x at.y (subst (λ (q : Point). holds (band_box x y other) q ≡ true) at.is two)).top in
    omega (arith, before, upper, lower)

-- A point of a band that was drawn has its colour, whatever was drawn since.
pub band_shown : (x y item count : ℕ) (p : Point) → item < count → holds (band_box x y item) p ≡ true → shaded x y count p ≡ ink item
band_shown x y item zero p before held = absurd (omega (arith, before))
band_shown x y item (suc count) p before held = elim (cases_eq item count) [
  | inl same ↦ ap (λ (b : Bool). cond b (ink count) (shaded x y count p)) (subst (λ (n : ℕ). holds (band_box x y n) p ≡ true) same held) ∙ ap ink (sym same)
  | inr other ↦
      let less : item < count = omega (arith, before, other) in
      let without : holds (band_box x y count) p ≡ false = not-true (holds (band_box x y count) p) (λ within. bands_apart x y item count p less held within) in
      ap (λ (b : Bool). cond b (ink count) (shaded x y count p)) without ∙ band_shown x y item count p less held
]
