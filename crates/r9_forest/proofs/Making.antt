-- An image that stands nowhere comes under a number that has none.
use Rattle.std.proofs.Common.{◌≡◌, ◌≢◌, ◌∙◌, ℕ, ◌<◌, ◌^◌, Bool, true, false, Option, Some, None, refl, sym, ap, subst}
use Rattle.std.specs.Prelude.{◌&&◌, option_map, unwrap_or, if◌then◌else◌}
use Rattle.std.specs.Option.{option_map_or}
use Rattle.std.proofs.lemmas.Bool.{ne_eqb}
use Rattle.r9_geom.specs.declared.Point.{Point}
use Rattle.r9_geom.specs.declared.Rect.{Rect}
use Rattle.r9_geom.specs.Geometry.{holds, IsOrdered, IsRectNearBy}
use Rattle.model_pixel.specs.Channels.{depth, is_descriptor}
use Rattle.model_forest.specs.Steps.{after_image}
use Rattle.model_forest.specs.World.{Image, World, image_at, no_image, parent_of, with_image, IsForest}
use Rattle.model_forest.proofs.Changes.{with_image-at, with_image-other}
use Rattle.model_forest.proofs.Steps.{IsForest-after_image}
use Rattle.model_kept.specs.Cells.{cell_of, cell_part, hides, hides_on, hides_under}
use Rattle.model_kept.specs.Keeping.{own, with_kept, Place}
use Rattle.model_kept.specs.Restack.{with_own}
use Rattle.model_kept.proofs.Coming.{come-world}
use Rattle.model_kept.proofs.Worlds.{pictured}
use Rattle.r9_plane.specs.declared.plane.Plane.{Plane}
use Rattle.r9_plane.specs.Pixels.{chan_of, pixel_at, rect_of}
use Rattle.r9_locate.specs.locate.Forms.{forms_of, Form}
use Rattle.r9_pixels.specs.Owns.{plane_form}
use Rattle.r9_pixels.specs.Places.{with_form, with_places, HasCells}
use Rattle.r9_forest.specs.Numbered.{bare_image}
use Rattle.r9_relist.proofs.arrive.Canvases.{alone}
use Rattle.r9_relist.proofs.arrive.Entering.{put_forms}

-- the plane of the new image
pub record IsPlane (plane : Plane) (r : Rect) (chan raw : ℕ) : Type 0 where
  pub rect : rect_of plane ≡ r
  pub channels : chan_of plane ≡ chan
  pub pixels : (p : Point) → pixel_at plane p ≡ (if holds r p then raw else 0)

abbrev pub with_made : World → ℕ → Rect → ℕ → World
with_made shape i r chan = with_image shape i (Some (bare_image r chan))

-- the world with its pixels is the one after it was made
pub made_world : (shape : World) (kept : Place → ℕ) (plane : Plane) (i : ℕ) (r : Rect) (chan raw : ℕ) → shape i ≡ None → IsForest (with_kept shape kept) → IsPlane plane r chan raw → with_kept (with_made shape i r chan) (with_own i (pixel_at plane) kept) ≡ after_image (with_kept shape kept) i r chan raw
unfolding after_image
made_world shape kept plane i r chan raw free ok is =
    come-world shape i (bare_image r chan) (pixel_at plane) kept (alone shape kept i free ok) refl (λ p stands. absurd (cc))
    ∙ ap (λ canvas. with_image (with_kept shape kept) i (Some (record (bare_image r chan) { canvas = canvas })))
    (λ j p. (ap (λ raw. if holds r p && true then raw else 0) (is.pixels p) ∙ inner (holds r p)) j)
  where
    inner : (b : Bool) → (if b && true then (if b then raw else 0) else 0) ≡ (if b && true then raw else 0)
    inner true = refl
    inner false = refl

pub made_forest : (shape : World) (kept : Place → ℕ) (plane : Plane) (i : ℕ) (r : Rect) (chan raw : ℕ) → shape i ≡ None → is_descriptor chan ≡ true → raw < 2 ^ depth chan → IsRectNearBy (2 ^ 34) r → IsOrdered r → IsForest (with_kept shape kept) → IsPlane plane r chan raw → IsForest (with_kept (with_made shape i r chan) (with_own i (pixel_at plane) kept))
made_forest shape kept plane i r chan raw free lawful fits near ordered ok is =
    subst IsForest (sym (made_world shape kept plane i r chan raw free ok is))
    (IsForest-after_image (with_kept shape kept) i r chan raw (ap (option_map {T = Image} (pictured shape kept i)) free) lawful fits near ordered ok)

pub made_forms : (shape : World) (forms : ℕ → Option Form) (plane : Plane) (i : ℕ) (r : Rect) (chan raw : ℕ) → forms ≡ forms_of shape → IsPlane plane r chan raw → with_form i (Some (plane_form plane)) forms ≡ forms_of (with_made shape i r chan)
made_forms shape forms plane i r chan raw same is =
    put_forms shape forms (plane_form plane) i (bare_image r chan) same (λ j. record { r = is.rect j; chan = is.channels j; is_window = false })

-- and the places of windows
pub made_cells : (shape : World) (kept : Place → ℕ) (has : Place → Bool) (inside : Point → Bool) (i : ℕ) (r : Rect) (chan : ℕ) → shape i ≡ None → IsForest (with_kept shape kept) → HasCells shape has → HasCells (with_made shape i r chan) (with_places i inside has)
made_cells shape kept has inside i r chan free ok cells n p x stands within =
    ap (λ b. if b then inside x else has (own n x)) (ne_eqb n i other)
    ∙ cells n p x was (ap (λ (image : Image). holds image.r x) (sym at_n) ∙ within)
    ∙ ap (λ (image : Image). hides shape n (cell_part image.r (cell_of image.r x))) (sym at_n)
    ∙ hides_same (cell_part (image_at new n).r (cell_of (image_at new n).r x))
  where
    new : World
    new = with_made shape i r chan

    other : n ≢ i
    other here =
        let nowhere : None ≡ Some p = sym (ap (λ m. parent_of new m) here ∙ ap (λ (o : Option Image). option_map (λ s. s.parent) (unwrap_or o no_image).standing) (with_image-at shape i (Some (bare_image r chan)))) ∙ stands in
        absurd (cc)

    at_n : image_at new n ≡ image_at shape n
    at_n = ap (λ o. unwrap_or o no_image) (with_image-other shape i n (Some (bare_image r chan)) other)

    was : parent_of shape n ≡ Some p
    was = ap (λ (image : Image). option_map (λ s. s.parent) image.standing) (sym at_n) ∙ stands

    below : p ≢ i
    below here = alone shape kept i free ok n (was ∙ ap (λ m. Some m) here)

    at_p : image_at new p ≡ image_at shape p
    at_p = ap (λ o. unwrap_or o no_image) (with_image-other shape i p (Some (bare_image r chan)) below)

    hides_on_same : (part : Rect) → hides_on new p n part ≡ hides_on shape p n part
    hides_on_same part =
        ap (λ (image : Image). hides_under image.r image.windows n (image_at new n).r part) at_p
        ∙ ap (λ (image : Image). hides_under (image_at shape p).r (image_at shape p).windows n image.r part) at_n

    hides_same : (part : Rect) → hides shape n part ≡ hides new n part
    hides_same part =
        ap (λ o. option_map_or (λ m. hides_on shape m n part) o false) was
        ∙ sym (hides_on_same part)
        ∙ sym (ap (λ o. option_map_or (λ m. hides_on new m n part) o false) stands)
