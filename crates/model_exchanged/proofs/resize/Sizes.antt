-- A world in which an image that stands nowhere has another size is one of images.
use Rattle.std.proofs.Common.{◌≡◌, ◌≢◌, ◌∙◌, ℕ, ◌+◌, ◌<◌, ◌≤◌, ◌^◌, Bool, true, false, List, Option, None, Some, get_or, refl, sym, ap, subst, arith}
use Rattle.std.specs.Prelude.{All, IsTrue, ◌==◌, ◌&&◌, is_some, option_map, pos, unwrap_or, if◌then◌else◌}
use Rattle.std.specs.Option.{option_map_or}
use Rattle.std.specs.List.{list_any}
use Rattle.std.proofs.lemmas.Bool.{false≢true}
use Rattle.std.proofs.lemmas.Int.{ints}
use Rattle.std.proofs.lemmas.Nat.{pow_pos}
use Rattle.r9_geom.specs.declared.Point.{Point}
use Rattle.r9_geom.specs.declared.Rect.{Rect}
use Rattle.r9_geom.specs.Geometry.{carried, holds, IsNearBy}
use Rattle.r9_geom.proofs.GeometryLemmas.{distance_is}
use Rattle.model_pixel.specs.Channels as channels
use Rattle.model_forest.specs.declared.Standing.{Standing}
use Rattle.model_forest.specs.declared.Window.{Window}
use Rattle.model_forest.specs.Stack.{seen}
use Rattle.model_forest.specs.View.{is_bare}
use Rattle.model_forest.specs.World.{Image, World, fill_of, image_at, no_image, origin_point, parent_of, with_image, IsForest, IsImage, IsLive, IsWindowOf, SameSize}
use Rattle.model_forest.proofs.Changes.{with_image-each, with_image-other}
use Rattle.model_forest.proofs.Sound.{times}
use Rattle.model_exchanged.specs.resize.Resize.{after_resize, sized, CanResize}

-- the world with an image that has another rectangle, clip rectangle and canvas
abbrev pub with_rect : World → ℕ → Rect → (Point → ℕ) → World
with_rect world i r canvas =
    with_image world i (Some (record (image_at world i) { r = r; clipr = r; canvas = canvas }))

-- two worlds that differ in the size of one image at most, which stands nowhere, and in clip rectangles, flags and canvases
pub record SameButSize (old new : World) (i : ℕ) : Type 0 where
  pub nowhere : parent_of old i ≡ None
  pub live : (n : ℕ) → is_some (new n) ≡ is_some (old n)
  pub standing : (n : ℕ) → (image_at new n).standing ≡ (image_at old n).standing
  pub depth : (n : ℕ) → (image_at new n).depth ≡ (image_at old n).depth
  pub chan : (n : ℕ) → (image_at new n).chan ≡ (image_at old n).chan
  pub windows : (n : ℕ) → (image_at new n).windows ≡ (image_at old n).windows
  pub min : (n : ℕ) → (image_at new n).r.min ≡ (image_at old n).r.min
  pub r : (n : ℕ) → n ≢ i → (image_at new n).r ≡ (image_at old n).r

pub size-same : (world : World) (i : ℕ) (r : Rect) (canvas : Point → ℕ) → CanResize world i → r.min ≡ origin_point → SameButSize world (with_rect world i r canvas) i
size-same world i r canvas can corner =
    let changed : Option Image = Some (record (image_at world i) { r = r; clipr = r; canvas = canvas }) in
    record {
      nowhere = can.nowhere;
      live = with_image-each world i changed (λ n slot. is_some slot ≡ is_some (world n)) (sym can.live) (λ n other. refl);
      standing = with_image-each world i changed (λ n slot. (unwrap_or slot no_image).standing ≡ (image_at world n).standing) refl (λ n other. refl);
      depth = with_image-each world i changed (λ n slot. (unwrap_or slot no_image).depth ≡ (image_at world n).depth) refl (λ n other. refl);
      chan = with_image-each world i changed (λ n slot. (unwrap_or slot no_image).chan ≡ (image_at world n).chan) refl (λ n other. refl);
      windows = with_image-each world i changed (λ n slot. (unwrap_or slot no_image).windows ≡ (image_at world n).windows) refl (λ n other. refl);
      min = with_image-each world i changed (λ n slot. (unwrap_or slot no_image).r.min ≡ (image_at world n).r.min) (corner ∙ sym can.corner) (λ n other. refl);
      r = λ n other. ap (λ (o : Option Image). (unwrap_or o no_image).r) (with_image-other world i n changed other);
    }

module _ (old new : World) (i : ℕ) (same : SameButSize old new i) where
  pub size-parent : (n : ℕ) → parent_of new n ≡ parent_of old n
  size-parent n = ap (option_map (λ (s : Standing). s.parent)) (same.standing n)

  -- no window is that image
  pub size-apart : (n p : ℕ) → parent_of old n ≡ Some p → n ≢ i
  size-apart n p stands is = false≢true (ap {A = Option ℕ} is_some (sym same.nowhere ∙ ap (parent_of old) (sym is) ∙ stands))

  pub size-window : (n : ℕ) (w : Window) → IsWindowOf old n w → IsWindowOf new n w
  size-window n w is = record {
    live = same.live w.image ∙ is.live;
    stands = size-parent w.image ∙ is.stands;
    fill = subst (IsLive new) (sym (ap (λ (s : Option Standing). option_map_or (λ (s : Standing). s.fill) s 0) (same.standing w.image))) (same.live (fill_of old w.image) ∙ is.fill);
    above = same.depth w.image ∙ is.above ∙ ap (λ d. d + 1) (sym (same.depth n));
    chan = same.chan w.image ∙ is.chan ∙ sym (same.chan n);
    size = subst (SameSize w.place) (sym (same.r w.image (size-apart w.image n is.stands))) is.size;
    reach = subst (λ (min : Point). IsNearBy (2 ^ 36) (carried w.place.min min origin_point)) (sym (same.min n)) is.reach;
  }

  pub size-forest : IsForest old → ((n : ℕ) → IsLive old n → IsImage (image_at new n)) → IsForest new
  size-forest ok images = record {
    images = λ n live. images n (sym (same.live n) ∙ live);
    windows = λ n live.
        subst (All (IsWindowOf new n)) (sym (same.windows n))
        (λ k d below. size-window n (get_or (image_at old n).windows k d) (ok.windows n (sym (same.live n) ∙ live) k d below));
    parents = λ n p live stands. same.live p ∙ ok.parents n p (sym (same.live n) ∙ live) (sym (size-parent n) ∙ stands);
    listed = λ n p live stands.
        subst (λ (ws : List Window). IsTrue (list_any (λ w. w.image == n) ws)) (sym (same.windows p))
        (ok.listed n p (sym (same.live n) ∙ live) (sym (size-parent n) ∙ stands));
    once = λ m n live. subst (λ (ws : List Window). times ws n ≤ 1) (sym (same.windows m)) (ok.once m n (sym (same.live m) ∙ live));
  }

-- the image itself
sized-image : (image : Image) (columns rows : ℕ) (canvas : Point → ℕ) → columns < 2 ^ 32 → rows < 2 ^ 32 → image.repl ≡ false → ((p : Point) → canvas p < 2 ^ channels.depth image.chan) → IsImage image → IsImage (record image { r = sized columns rows; clipr = sized columns rows; canvas = canvas })
sized-image image columns rows canvas few low whole raws is = record {
  shallow = is.shallow;
  ordered = record { across = omega (arith, ints); down = omega (arith, ints) };
  near_min = record { left = omega (arith, ints); right = omega (arith, ints); top = omega (arith, ints); bottom = omega (arith, ints) };
  near_max = record { left = omega (arith, ints); right = omega (arith, ints, few); top = omega (arith, ints); bottom = omega (arith, ints, low) };
  columns = let across = distance_is (pos 0) (pos columns) (omega (arith, ints)) in omega (arith, ints, across, few);
  rows = let down = distance_is (pos 0) (pos rows) (omega (arith, ints)) in omega (arith, ints, down, low);
  clip = record {
    min = record { left = omega (arith, ints); right = omega (arith, ints); top = omega (arith, ints); bottom = omega (arith, ints) };
    max = record { left = omega (arith, ints); right = omega (arith, ints, few); top = omega (arith, ints); bottom = omega (arith, ints, low) };
  };
  few = is.few;
  chan = is.chan;
  raws = raws;
  repeats = λ repl. absurd (false≢true (sym whole ∙ repl));
}

pub rect-forest : (world : World) (i columns rows : ℕ) (canvas : Point → ℕ) → IsForest world → CanResize world i → columns < 2 ^ 32 → rows < 2 ^ 32 → ((p : Point) → canvas p < 2 ^ channels.depth (image_at world i).chan) → IsForest (with_rect world i (sized columns rows) canvas)
rect-forest world i columns rows canvas ok can few low raws =
    size-forest world (with_rect world i (sized columns rows) canvas) i (size-same world i (sized columns rows) canvas can refl) ok
    (with_image-each world i (Some (record (image_at world i) { r = sized columns rows; clipr = sized columns rows; canvas = canvas }))
    (λ n slot. IsLive world n → IsImage (unwrap_or slot no_image))
    (λ live. sized-image (image_at world i) columns rows canvas few low can.whole raws (ok.images i live))
    (λ n other live. ok.images n live))

-- what it shows is of its channels
seen-below : (r was : Rect) (ws : List Window) (canvas : Point → ℕ) (raw bits : ℕ) → raw < 2 ^ bits → ((p : Point) → canvas p < 2 ^ bits) → (p : Point) → seen r ws (λ q. if holds was q then canvas q else raw) p < 2 ^ bits
seen-below r was ws canvas raw bits fits below p = by_seen (holds r p && is_bare ws p) (holds was p)
  where
    by_seen : (a b : Bool) → (if a then (if b then canvas p else raw) else 0) < 2 ^ bits
    by_seen true true = below p
    by_seen true false = fits
    by_seen false b = pow_pos bits

pub resize-forest : (world : World) (i columns rows raw : ℕ) → IsForest world → CanResize world i → columns < 2 ^ 32 → rows < 2 ^ 32 → raw < 2 ^ channels.depth (image_at world i).chan → IsForest (after_resize world i columns rows raw)
unfolding after_resize
resize-forest world i columns rows raw ok can few low fits =
    let image = image_at world i in
    rect-forest world i columns rows (seen (sized columns rows) image.windows (λ p. if holds image.r p then image.canvas p else raw)) ok can few low
    (seen-below (sized columns rows) image.r image.windows image.canvas raw (channels.depth image.chan) fits (ok.images i can.live).raws)
