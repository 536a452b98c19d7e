-- The tables of images in which one gets another min.
use Rattle.std.proofs.Common.{◌≡◌, ◌≢◌, ◌∙◌, ℕ, true, Option, Some, None, ⊎_elim, refl, sym, ap, eq-eqb}
use Rattle.std.specs.Prelude.{is_some, option_map, unwrap_or, if◌then◌else◌}
use Rattle.std.specs.Option.{option_map_or}
use Rattle.std.proofs.lemmas.Bool.{cases_eq, ne_eqb, true≢false}
use Rattle.r9_geom.specs.declared.Point.{Point}
use Rattle.model_forest.specs.Steps.{shifted_image}
use Rattle.model_forest.specs.World.{Image, World, image_at, no_image, no_rect, with_image, IsLive}
use Rattle.model_forest.proofs.Changes.{with_image-at, with_image-other, World-changed}
use Rattle.model_kept.specs.Restack.{shifted_shape}
use Rattle.r9_locate.specs.locate.Forms.{form_of, forms_of, Form}
use Rattle.r9_pixels.specs.Places.{shifted_form, with_form}
use Rattle.r9_relist.proofs.shift.Along.{at_min-carried}

-- of two images under a number the later one stays
pub put_again : (world : World) (i : ℕ) (first second : Option Image) → with_image (with_image world i first) i second ≡ with_image world i second
put_again world i first second =
    World-changed world (with_image (with_image world i first) i second) i second (with_image-at (with_image world i first) i second)
    (λ n other. with_image-other (with_image world i first) i n second other ∙ with_image-other world i n first other)

-- the rectangle of a number's form is its image's
pub rect_is : (slot : Option Image) → option_map_or (λ (form : Form). form.r) (option_map form_of slot) no_rect ≡ (unwrap_or slot no_image).r
rect_is None = refl
rect_is (Some image) = refl

pub form_some : (slot : Option Image) → is_some slot ≡ true → is_some (option_map form_of slot) ≡ true
form_some None live = live
form_some (Some image) live = refl

-- it is live then
pub shifted_live : (world : World) (i : ℕ) (min : Point) → IsLive (shifted_shape world i min) i
shifted_live world i min = ap is_some (with_image-at world i (Some (shifted_image (image_at world i) min)))

form_shifted : (image : Image) (min : Point) → shifted_form min (form_of image) ≡ form_of (shifted_image image min)
form_shifted image min = λ j. record { r = at_min-carried image.r min j; chan = image.chan; is_window = is_some image.standing }

slot_shifted : (slot : Option Image) (min : Point) → is_some slot ≡ true → option_map (shifted_form min) (option_map form_of slot) ≡ Some (form_of (shifted_image (unwrap_or slot no_image) min))
slot_shifted None min live = absurd (true≢false (sym live))
slot_shifted (Some image) min live = ap (λ (form : Form). Some form) (form_shifted image min)

pub shifted_forms : (world : World) (i : ℕ) (min : Point) → IsLive world i → with_form i (option_map (shifted_form min) (forms_of world i)) (forms_of world) ≡ forms_of (shifted_shape world i min)
shifted_forms world i min live = λ j n. at n j
  where
    now : Image
    now = shifted_image (image_at world i) min

    at : (n : ℕ) → with_form i (option_map (shifted_form min) (forms_of world i)) (forms_of world) n ≡ forms_of (shifted_shape world i min) n
    at n =
        ⊎_elim
        (λ (here : n ≡ i).
        ap (λ b. if b then option_map (shifted_form min) (forms_of world i) else forms_of world n) (eq-eqb n i here)
        ∙ slot_shifted (world i) min live
        ∙ sym (ap (λ b. option_map form_of (if b then Some now else world n)) (eq-eqb n i here)))
        (λ (other : n ≢ i).
        ap (λ b. if b then option_map (shifted_form min) (forms_of world i) else forms_of world n) (ne_eqb n i other)
        ∙ sym (ap (λ b. option_map form_of (if b then Some now else world n)) (ne_eqb n i other)))
        (cases_eq n i)
