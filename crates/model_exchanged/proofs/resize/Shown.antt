-- What images show once one that stands nowhere has another size.
use Rattle.std.proofs.Common.{◌≡◌, ◌≢◌, ◌∙◌, ℕ, zero, suc, ◌<◌, ◌^◌, Bool, true, false, Option, None, Some, refl, sym, ap}
use Rattle.std.specs.Prelude.{◌&&◌, ◌+ℤ◌, ◌-ℤ◌, is_none, is_some, unwrap_or, if◌then◌else◌}
use Rattle.std.specs.Option.{option_map_or}
use Rattle.r9_geom.specs.declared.Point.{Point}
use Rattle.r9_geom.specs.Geometry.{holds}
use Rattle.model_pixel.specs.Channels as channels
use Rattle.model_forest.specs.declared.Window.{Window}
use Rattle.model_forest.specs.Stack.{seen}
use Rattle.model_forest.specs.View.{inward, top_window, view, view_within}
use Rattle.model_forest.specs.World.{deepest, Image, World, image_at, no_image, parent_of, IsForest, IsLive, IsWindowOf}
use Rattle.model_forest.proofs.Changes.{with_image-at, with_image-other}
use Rattle.model_forest.proofs.Views.{view-step, window-at}
use Rattle.model_exchanged.specs.resize.Resize.{after_resize, resized_image, sized, CanResize}
use Rattle.model_exchanged.proofs.resize.Sizes.{resize-forest}

-- the others stay as they are
resize-other : (world : World) (i columns rows raw n : ℕ) → n ≢ i → image_at (after_resize world i columns rows raw) n ≡ image_at world n
unfolding after_resize
resize-other world i columns rows raw n other =
    ap (λ o. unwrap_or o no_image) (with_image-other world i n (Some (resized_image (image_at world i) (sized columns rows) raw)) other)

pub resize-at : (world : World) (i columns rows raw : ℕ) → image_at (after_resize world i columns rows raw) i ≡ resized_image (image_at world i) (sized columns rows) raw
unfolding after_resize
resize-at world i columns rows raw =
    ap (λ o. unwrap_or o no_image) (with_image-at world i (Some (resized_image (image_at world i) (sized columns rows) raw)))

-- no window is the image
stands-apart : (world : World) (i n : ℕ) (p : ℕ) → parent_of world i ≡ None → parent_of world n ≡ Some p → n ≢ i
stands-apart world i n p nowhere stands is = let none : None ≡ Some p = sym nowhere ∙ ap (parent_of world) (sym is) ∙ stands in cc

same_at : (f g : Window → ℕ) (o : Option Window) (d : ℕ) → ((w : Window) → o ≡ Some w → f w ≡ g w) → option_map_or f o d ≡ option_map_or g o d
same_at f g None d agree = refl
same_at f g (Some w) d agree = agree w refl

within-other : (world : World) (i columns rows raw : ℕ) → IsForest world → CanResize world i → (depth n : ℕ) (p : Point) → IsLive world n → n ≢ i → view_within depth (after_resize world i columns rows raw) n p ≡ view_within depth world n p
within-other world i columns rows raw ok can zero n p live other = refl
within-other world i columns rows raw ok can (suc depth) n p live other =
    ap (λ (image : Image). option_map_or (λ w. view_within depth new w.image (inward new w p)) (top_window image.windows p) (image.canvas p)) (resize-other world i columns rows raw n other)
    ∙ same_at (λ w. view_within depth new w.image (inward new w p)) (λ w. view_within depth world w.image (inward world w p)) (top_window (image_at world n).windows p) ((image_at world n).canvas p)
    (λ w e.
    let is : IsWindowOf world n w = window-at world ok n p w live e in
    inner w is (stands-apart world i w.image n can.nowhere is.stands) (within-other world i columns rows raw ok can depth w.image (inward world w p) is.live))
  where
    new : World
    new = after_resize world i columns rows raw

    inner : (w : Window) → IsWindowOf world n w → w.image ≢ i → (w.image ≢ i → view_within depth new w.image (inward world w p) ≡ view_within depth world w.image (inward world w p)) → view_within depth new w.image (inward new w p) ≡ view_within depth world w.image (inward world w p)
    inner w is apart deeper =
        ap (λ (image : Image). view_within depth new w.image (record { x = p.x -ℤ w.place.min.x +ℤ image.r.min.x; y = p.y -ℤ w.place.min.y +ℤ image.r.min.y })) (resize-other world i columns rows raw w.image apart)
        ∙ deeper apart

pub other-view : (world : World) (i columns rows raw n : ℕ) (p : Point) → IsForest world → CanResize world i → IsLive world n → n ≢ i → view (after_resize world i columns rows raw) n p ≡ view world n p
unfolding view
other-view world i columns rows raw n p ok can live other = within-other world i columns rows raw ok can (suc deepest) n p live other

resize-live : (world : World) (i columns rows raw : ℕ) → is_some (after_resize world i columns rows raw i) ≡ true
unfolding after_resize
resize-live world i columns rows raw = ap is_some (with_image-at world i (Some (resized_image (image_at world i) (sized columns rows) raw)))

-- and the image itself
pub sized-view : (world : World) (i columns rows raw : ℕ) (p : Point) → IsForest world → CanResize world i → columns < 2 ^ 32 → rows < 2 ^ 32 → raw < 2 ^ channels.depth (image_at world i).chan → holds (sized columns rows) p ≡ true → view (after_resize world i columns rows raw) i p ≡ (if holds (image_at world i).r p then view world i p else option_map_or (λ w. view world w.image (inward world w p)) (top_window (image_at world i).windows p) raw)
sized-view world i columns rows raw p ok can few low fits inside =
    view-step new (resize-forest world i columns rows raw ok can few low fits) i p (resize-live world i columns rows raw)
    ∙ ap (λ (im : Image). option_map_or (λ w. view new w.image (inward new w p)) (top_window im.windows p) (im.canvas p)) (resize-at world i columns rows raw)
    ∙ by_top (top_window image.windows p) refl
    ∙ sym (ap (λ n. if holds image.r p then n else option_map_or (λ w. view world w.image (inward world w p)) (top_window image.windows p) raw) (view-step world ok i p can.live))
  where
    new : World
    new = after_resize world i columns rows raw

    image : Image
    image = image_at world i

    shows : Window → ℕ
    shows w = view world w.image (inward world w p)

    either : (b : Bool) (n : ℕ) → n ≡ (if b then n else n)
    either true n = refl
    either false n = refl

    by_top : (o : Option Window) → top_window image.windows p ≡ o → option_map_or (λ w. view new w.image (inward new w p)) (top_window image.windows p) (seen (sized columns rows) image.windows (λ q. if holds image.r q then image.canvas q else raw) p) ≡ (if holds image.r p then option_map_or shows (top_window image.windows p) (image.canvas p) else option_map_or shows (top_window image.windows p) raw)
    by_top None e =
        (λ j. option_map_or (λ w. view new w.image (inward new w p)) (e j) (if inside j && is_none (e j) then (if holds image.r p then image.canvas p else raw) else 0))
        ∙ sym (λ j. if holds image.r p then option_map_or shows (e j) (image.canvas p) else option_map_or shows (e j) raw)
    by_top (Some w) e =
        ap (λ o. option_map_or (λ w. view new w.image (inward new w p)) o (seen (sized columns rows) image.windows (λ q. if holds image.r q then image.canvas q else raw) p)) e
        ∙ ap (λ (im : Image). view new w.image (record { x = p.x -ℤ w.place.min.x +ℤ im.r.min.x; y = p.y -ℤ w.place.min.y +ℤ im.r.min.y })) (resize-other world i columns rows raw w.image apart)
        ∙ other-view world i columns rows raw w.image (inward world w p) ok can is.live apart
        ∙ either (holds image.r p) (shows w)
        ∙ sym (λ j. if holds image.r p then option_map_or shows (e j) (image.canvas p) else option_map_or shows (e j) raw)
      where
        is : IsWindowOf world i w
        is = window-at world ok i p w can.live e

        apart : w.image ≢ i
        apart = stands-apart world i w.image i can.nowhere is.stands
