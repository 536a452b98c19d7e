-- Worlds that differ in the canvases of their images alone.
use Rattle.std.proofs.Common.{◌≡◌, ◌∙◌, ℕ, ◌+◌, ◌<◌, ◌≤◌, ◌^◌, List, Option, Some, None, refl, sym, ap, subst, length, get_or}
use Rattle.std.proofs.lemmas.Bool.{true≢false}
use Rattle.std.specs.Prelude.{◌==◌, All, IsTrue, is_some, option_map, unwrap_or}
use Rattle.std.specs.Option.{option_map_or}
use Rattle.std.specs.List.{count_by, list_any}
use Rattle.r9_geom.specs.declared.Point.{Point}
use Rattle.r9_geom.specs.declared.Rect.{Rect}
use Rattle.r9_geom.specs.Geometry.{carried, height, width, HasPoints, IsNearBy, IsOrdered, IsRectNearBy}
use Rattle.model_pixel.specs.Channels.{depth, is_descriptor}
use Rattle.model_forest.specs.declared.Standing.{Standing}
use Rattle.model_forest.specs.declared.Window.{Window}
use Rattle.model_forest.specs.World.{Image, World, deepest, fill_of, image_at, no_image, origin_point, parent_of, IsForest, IsImage, IsLive, IsWindowOf, SameSize}
use Rattle.model_forest.proofs.Changes.{live-standing}
use Rattle.model_kept.specs.Keeping.{with_kept, Place}
use Rattle.model_kept.specs.Restack.{IsAlone}
use Rattle.model_kept.proofs.Worlds.{pictured}

pub record SameButCanvas (a b : World) : Type 0 where
  pub live : (n : ℕ) → is_some (b n) ≡ is_some (a n)
  pub r : (n : ℕ) → (image_at b n).r ≡ (image_at a n).r
  pub clipr : (n : ℕ) → (image_at b n).clipr ≡ (image_at a n).clipr
  pub repl : (n : ℕ) → (image_at b n).repl ≡ (image_at a n).repl
  pub chan : (n : ℕ) → (image_at b n).chan ≡ (image_at a n).chan
  pub standing : (n : ℕ) → (image_at b n).standing ≡ (image_at a n).standing
  pub deep : (n : ℕ) → (image_at b n).depth ≡ (image_at a n).depth
  pub windows : (n : ℕ) → (image_at b n).windows ≡ (image_at a n).windows

-- as the images that lists have, and those with their pixels
pub bare_canvas : (shape : World) (kept : Place → ℕ) → SameButCanvas (with_kept shape kept) shape
bare_canvas shape kept = record {
  live = λ n. alike n (shape n);
  r = λ n. r n (shape n);
  clipr = λ n. clipr n (shape n);
  repl = λ n. repl n (shape n);
  chan = λ n. chan n (shape n);
  standing = λ n. standing n (shape n);
  deep = λ n. deep n (shape n);
  windows = λ n. windows n (shape n);
}
  where
    shown : ℕ → Option Image → Option Image
    shown n o = option_map {T = Image} (pictured shape kept n) o

    alike : (n : ℕ) (o : Option Image) → is_some o ≡ is_some (shown n o)
    alike n None = refl
    alike n (Some image) = refl

    r : (n : ℕ) (o : Option Image) → (unwrap_or o no_image).r ≡ (unwrap_or (shown n o) no_image).r
    r n None = refl
    r n (Some image) = refl

    clipr : (n : ℕ) (o : Option Image) → (unwrap_or o no_image).clipr ≡ (unwrap_or (shown n o) no_image).clipr
    clipr n None = refl
    clipr n (Some image) = refl

    repl : (n : ℕ) (o : Option Image) → (unwrap_or o no_image).repl ≡ (unwrap_or (shown n o) no_image).repl
    repl n None = refl
    repl n (Some image) = refl

    chan : (n : ℕ) (o : Option Image) → (unwrap_or o no_image).chan ≡ (unwrap_or (shown n o) no_image).chan
    chan n None = refl
    chan n (Some image) = refl

    standing : (n : ℕ) (o : Option Image) → (unwrap_or o no_image).standing ≡ (unwrap_or (shown n o) no_image).standing
    standing n None = refl
    standing n (Some image) = refl

    deep : (n : ℕ) (o : Option Image) → (unwrap_or o no_image).depth ≡ (unwrap_or (shown n o) no_image).depth
    deep n None = refl
    deep n (Some image) = refl

    windows : (n : ℕ) (o : Option Image) → (unwrap_or o no_image).windows ≡ (unwrap_or (shown n o) no_image).windows
    windows n None = refl
    windows n (Some image) = refl

pub parent_same : (a b : World) → SameButCanvas a b → (n : ℕ) → parent_of b n ≡ parent_of a n
parent_same a b same n = ap (option_map (λ (s : Standing). s.parent)) (same.standing n)

image_as : (a b : World) → SameButCanvas a b → (n : ℕ) → ((p : Point) → (image_at b n).canvas p < 2 ^ depth (image_at b n).chan) → IsImage (image_at a n) → IsImage (image_at b n)
image_as a b same n raws is = record {
  shallow = subst (λ (d : ℕ). d ≤ deepest) (sym (same.deep n)) is.shallow;
  ordered = subst IsOrdered (sym (same.r n)) is.ordered;
  near_min = subst (λ (r : Rect). IsNearBy (2 ^ 34) r.min) (sym (same.r n)) is.near_min;
  near_max = subst (λ (r : Rect). IsNearBy (2 ^ 36) r.max) (sym (same.r n)) is.near_max;
  columns = subst (λ (r : Rect). width r ≤ 2 ^ 35) (sym (same.r n)) is.columns;
  rows = subst (λ (r : Rect). height r ≤ 2 ^ 35) (sym (same.r n)) is.rows;
  clip = subst (IsRectNearBy (2 ^ 34)) (sym (same.clipr n)) is.clip;
  few = subst (λ (ws : List Window). length ws < 2 ^ 32) (sym (same.windows n)) is.few;
  chan = subst (λ (c : ℕ). IsTrue (is_descriptor c)) (sym (same.chan n)) is.chan;
  raws = raws;
  repeats = λ repl. subst HasPoints (sym (same.r n)) (is.repeats (sym (same.repl n) ∙ repl));
}

window_as : (a b : World) → SameButCanvas a b → (i : ℕ) (w : Window) → IsWindowOf a i w → IsWindowOf b i w
window_as a b same i w is = record {
  live = same.live w.image ∙ is.live;
  stands = parent_same a b same w.image ∙ is.stands;
  fill = subst (IsLive b) (sym (ap (λ (s : Option Standing). option_map_or (λ (s : Standing). s.fill) s 0) (same.standing w.image))) (same.live (fill_of a w.image) ∙ is.fill);
  above = same.deep w.image ∙ is.above ∙ ap (λ d. d + 1) (sym (same.deep i));
  chan = same.chan w.image ∙ is.chan ∙ sym (same.chan i);
  size = subst (SameSize w.place) (sym (same.r w.image)) is.size;
  reach = subst (λ (r : Rect). IsNearBy (2 ^ 36) (carried w.place.min r.min origin_point)) (sym (same.r i)) is.reach;
}

pub IsForest-canvas : (a b : World) → SameButCanvas a b → ((n : ℕ) (p : Point) → IsLive b n → (image_at b n).canvas p < 2 ^ depth (image_at b n).chan) → IsForest a → IsForest b
IsForest-canvas a b same raws ok = record {
  images = λ i live. image_as a b same i (λ p. raws i p live) (ok.images i (was i live));
  windows = λ i live.
      subst (All (IsWindowOf b i)) (sym (same.windows i))
      (λ k d below. window_as a b same i (get_or (image_at a i).windows k d) (ok.windows i (was i live) k d below));
  parents = λ i p live stands. same.live p ∙ ok.parents i p (was i live) (sym (parent_same a b same i) ∙ stands);
  listed = λ i p live stands.
      subst (λ (ws : List Window). IsTrue (list_any (λ w. w.image == i) ws)) (sym (same.windows p)) (ok.listed i p (was i live) (sym (parent_same a b same i) ∙ stands));
  once = λ i n live.
      subst (λ (ws : List Window). count_by (λ w. w.image == n) ws ≤ 1) (sym (same.windows i)) (ok.once i n (was i live));
}
  where
    was : (i : ℕ) → IsLive b i → IsLive a i
    was i live = sym (same.live i) ∙ live

-- no image stands on a number that has none
pub alone : (shape : World) (kept : Place → ℕ) (i : ℕ) → shape i ≡ None → IsForest (with_kept shape kept) → IsAlone shape i
alone shape kept i free ok n stands =
    let same = bare_canvas shape kept in
    let seen_stands : parent_of (with_kept shape kept) n ≡ Some i = sym (ap (option_map (λ s. s.parent)) (same.standing n)) ∙ stands in
    let live = ok.parents n i (live-standing (with_kept shape kept) n i seen_stands) seen_stands in
    true≢false (sym (same.live i ∙ live) ∙ ap is_some free)
