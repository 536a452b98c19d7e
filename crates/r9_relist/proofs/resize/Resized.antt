-- The world once an image that stands nowhere has another rectangle, and the pixels are where they are kept then.
use Rattle.std.proofs.Common.{◌≡◌, ◌≢◌, ◌∙◌, ℕ, Bool, true, false, Option, Some, None, refl, sym, ap, subst, ⊎_elim}
use Rattle.std.specs.Prelude.{◌&&◌, is_some, option_map, unwrap_or, if◌then◌else◌}
use Rattle.std.proofs.lemmas.Bool.{cases_eq, true≢false}
use Rattle.r9_geom.specs.declared.Point.{Point}
use Rattle.r9_geom.specs.declared.Rect.{Rect}
use Rattle.r9_geom.specs.Geometry.{holds}
use Rattle.model_forest.specs.Stack.{seen}
use Rattle.model_forest.specs.View.{is_bare}
use Rattle.model_forest.specs.World.{Image, World, image_at, no_image, origin_point, with_image, IsForest, IsLive}
use Rattle.model_forest.proofs.Changes.{with_image-at, with_image-other, World-same}
use Rattle.model_kept.specs.Keeping.{keeping, own, with_kept, Place}
use Rattle.model_kept.proofs.Worlds.{image_at-slot, live-slot, pictured, seen-same}
use Rattle.r9_locate.proofs.locate.Locating.{keeping-root}
use Rattle.model_exchanged.specs.resize.Resize.{after_resize, resized_image, sized, CanResize}
use Rattle.model_exchanged.proofs.resize.Sizes.{size-same, SameButSize}
use Rattle.r9_relist.specs.resize.Moves.{IsResized}
use Rattle.r9_relist.specs.resize.Sizes.{with_rects}
use Rattle.r9_relist.proofs.resize.Alike.{alike, root_now}

-- the image with other rectangles, beside the one before
pub rects_at : (world : World) (i : ℕ) (r clipr : Rect) → image_at (with_rects world i r clipr) i ≡ record (image_at world i) { r = r; clipr = clipr }
rects_at world i r clipr = ap (λ o. unwrap_or o no_image) (with_image-at world i (Some (record (image_at world i) { r = r; clipr = clipr })))

pub rects_live : (world : World) (i : ℕ) (r clipr : Rect) → IsLive (with_rects world i r clipr) i
rects_live world i r clipr = ap is_some (with_image-at world i (Some (record (image_at world i) { r = r; clipr = clipr })))

pub rects_same : (world : World) (i : ℕ) (r : Rect) → CanResize world i → r.min ≡ origin_point → SameButSize world (with_rects world i r r) i
rects_same world i r can corner = size-same world i r (image_at world i).canvas can corner

module _ (old : World) (i columns rows raw : ℕ) (before after : Place → ℕ) (can : CanResize old i) (was : IsForest old) (ok : IsForest (with_rects old i (sized columns rows) (sized columns rows))) (is : IsResized (with_rects old i (sized columns rows) (sized columns rows)) i (image_at old i).r raw before after) where
  abbrev to : Rect
  to = sized columns rows

  abbrev new : World
  new = with_rects old i to to

  abbrev kept_old : World
  kept_old = with_kept old before

  live : IsLive new i
  live = rects_live old i to to

  same : SameButSize old new i
  same = rects_same old i to can refl

  -- its own pixels
  own_seen : (image : Image) → old i ≡ Some image → seen to image.windows (λ p. after (keeping new i p)) ≡ seen to image.windows (λ p. if holds image.r p then seen image.r image.windows (λ z. before (keeping old i z)) p else raw)
  own_seen image e =
      seen-same to image.windows (λ p. after (keeping new i p)) (λ p. if holds image.r p then seen image.r image.windows (λ z. before (keeping old i z)) p else raw)
      (λ p here bare. ap after (keeping-root new i p (root_now old new i raw before after live was ok same is)) ∙ by_had p here bare (holds image.r p) refl)
    where
      at_old : image_at old i ≡ image
      at_old = image_at-slot old i image e

      at_new : image_at new i ≡ record image { r = to; clipr = to }
      at_new = rects_at old i to to ∙ ap (λ (im : Image). record im { r = to; clipr = to }) at_old

      by_had : (p : Point) → holds to p ≡ true → is_bare image.windows p ≡ true → (b : Bool) → holds image.r p ≡ b → after (own i p) ≡ (if holds image.r p then (if holds image.r p && is_bare image.windows p then before (keeping old i p) else 0) else raw)
      by_had p here bare true had =
          is.stays p (ap (λ (im : Image). holds im.r p) at_old ∙ had) (ap (λ (im : Image). holds im.r p) at_new ∙ here)
          ∙ sym (ap before (keeping-root old i p can.nowhere))
          ∙ sym (λ j. if had j then (if had j && bare j then before (keeping old i p) else 0) else raw)
      by_had p here bare false had =
          is.bare p (ap (λ (im : Image). holds im.r p) at_old ∙ had) (ap (λ (im : Image). holds im.r p) at_new ∙ here) (ap (λ (im : Image). is_bare im.windows p) at_new ∙ bare)
          ∙ sym (λ j. if had j then (if had j && bare j then before (keeping old i p) else 0) else raw)

  at_i : (o : Option Image) → old i ≡ o → with_kept new after i ≡ with_image kept_old i (Some (resized_image (image_at kept_old i) to raw)) i
  at_i None e = absurd (true≢false (sym can.live ∙ ap is_some e))
  at_i (Some image) e =
      let there : image_at kept_old i ≡ pictured old before i image = image_at-slot kept_old i (pictured old before i image) (ap (option_map {T = Image} (pictured old before i)) e) in
      ap (option_map {T = Image} (pictured new after i)) (with_image-at old i (Some (record (image_at old i) { r = to; clipr = to })) ∙ ap (λ (im : Image). Some (record im { r = to; clipr = to })) (image_at-slot old i image e))
      ∙ ap (λ c. Some (record image { r = to; clipr = to; canvas = c })) (own_seen image e)
      ∙ sym (ap (λ (im : Image). Some (resized_image im to raw)) there)
      ∙ sym (with_image-at kept_old i (Some (resized_image (image_at kept_old i) to raw)))

  at_other : (n : ℕ) → n ≢ i → (o : Option Image) → old n ≡ o → with_kept new after n ≡ with_image kept_old i (Some (resized_image (image_at kept_old i) to raw)) n
  at_other n other None e =
      ap (option_map {T = Image} (pictured new after n)) (with_image-other old i n (Some (record (image_at old i) { r = to; clipr = to })) other ∙ e)
      ∙ sym (with_image-other kept_old i n (Some (resized_image (image_at kept_old i) to raw)) other ∙ ap (option_map {T = Image} (pictured old before n)) e)
  at_other n other (Some image) e =
      let now : new n ≡ Some image = with_image-other old i n (Some (record (image_at old i) { r = to; clipr = to })) other ∙ e in
      ap (option_map {T = Image} (pictured new after n)) now
      ∙ ap (λ c. Some (record image { canvas = c }))
      (seen-same image.r image.windows (λ y. after (keeping new n y)) (λ y. before (keeping old n y))
      (λ y inside bare. alike old new i raw before after live was ok same is n y (live-slot new n image now) other))
      ∙ sym (with_image-other kept_old i n (Some (resized_image (image_at kept_old i) to raw)) other ∙ ap (option_map {T = Image} (pictured old before n)) e)

  pub resized_world : with_kept new after ≡ after_resize kept_old i columns rows raw
  unfolding after_resize
  resized_world =
      World-same (with_kept new after) (with_image kept_old i (Some (resized_image (image_at kept_old i) to raw)))
      (λ n.
      ⊎_elim
      (λ (here : n ≡ i). subst (λ m. with_kept new after m ≡ with_image kept_old i (Some (resized_image (image_at kept_old i) to raw)) m) (sym here) (at_i (old i) refl))
      (λ (other : n ≢ i). at_other n other (old n) refl)
      (cases_eq n i))
