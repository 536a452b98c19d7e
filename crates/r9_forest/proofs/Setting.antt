-- An image is set to repeat or not, with another clip rectangle: no pixel changes.
use Rattle.std.proofs.Common.{◌≡◌, ◌∙◌, ℕ, ◌^◌, Bool, true, false, List, Option, Some, None, refl, sym, ap, subst, length}
use Rattle.std.specs.Prelude.{is_some, option_map, unwrap_or}
use Rattle.std.specs.Option.{option_map_or}
use Rattle.std.proofs.lemmas.Bool.{true≢false}
use Rattle.r9_geom.specs.declared.Point.{Point}
use Rattle.r9_geom.specs.declared.Rect.{Rect}
use Rattle.r9_geom.specs.Geometry.{holds, HasPoints, IsRectNearBy}
use Rattle.model_forest.specs.declared.Standing.{Standing}
use Rattle.model_forest.specs.Stack.{seen}
use Rattle.model_forest.specs.Steps.{after_set}
use Rattle.model_forest.specs.World.{Image, World, image_at, no_image, IsForest, IsLive}
use Rattle.model_forest.proofs.Changes.{with_image-at, with_image-each, with_image-other, World-changed}
use Rattle.model_forest.proofs.Steps.{IsForest-after_set}
use Rattle.model_kept.specs.Cells.{cell_of, cell_part, hides_under}
use Rattle.model_kept.specs.Keeping.{keeping, keeping_within, with_kept, Place}
use Rattle.model_kept.proofs.Worlds.{pictured}
use Rattle.r9_locate.specs.declared.locate.lists.Lists.{Lists}
use Rattle.r9_locate.specs.locate.Forms.{form_of, forms_of}
use Rattle.r9_locate.specs.locate.Table.{made, shape}
use Rattle.r9_locate.proofs.locate.Clips.{clip-same, with_clip, SameButClip}
use Rattle.r9_pixels.specs.declared.keeping.KeptPixels.{KeptPixels}
use Rattle.r9_pixels.specs.Kept.{has_place, kept_at}
use Rattle.r9_pixels.specs.Places.{HasCells}
use Rattle.r9_forest.specs.Numbered.{IsNumbered}
use Rattle.r9_forest.specs.Sound.{IsSound}
use Rattle.r9_forest.specs.Told.{info_of}
use Rattle.r9_relist.proofs.arrive.Canvases.{bare_canvas, SameButCanvas}
use Rattle.r9_forest.proofs.Showing.{keeping_alike}

-- an image with the pixels that it keeps
pub seen_at : (shape : World) (kept : Place → ℕ) (i : ℕ) → IsLive shape i → image_at (with_kept shape kept) i ≡ pictured shape kept i (image_at shape i)
seen_at shape kept i live = at (shape i) live
  where
    at : (o : Option Image) → is_some o ≡ true → unwrap_or (option_map {T = Image} (pictured shape kept i) o) no_image ≡ pictured shape kept i (unwrap_or o no_image)
    at None e = absurd (true≢false (sym e))
    at (Some image) e = refl

keeping_clip : (old new : World) → SameButClip old new → (n : ℕ) (p : Point) → keeping new n p ≡ keeping old n p
keeping_clip old new same n p =
    ap (λ d. keeping_within d new n p) (same.depth n)
    ∙ keeping_alike old new same.r same.standing same.windows (image_at old n).depth n p

-- the world with its pixels
pub set_world : (world : World) (kept : Place → ℕ) (i : ℕ) (repl : Bool) (clipr : Rect) → IsLive world i → with_kept (with_clip world i repl clipr) kept ≡ with_clip (with_kept world kept) i repl clipr
set_world world kept i repl clipr live =
    World-changed (with_kept world kept) (with_kept new kept) i (Some (set (image_at (with_kept world kept) i)))
    (ap (option_map {T = Image} (pictured new kept i)) (with_image-at world i (Some (set (image_at world i))))
    ∙ ap (λ (image : Image). Some (set image)) (same_picture i (image_at world i) ∙ sym (seen_at world kept i live)))
    (λ n other.
    ap (option_map {T = Image} (pictured new kept n)) (with_image-other world i n (Some (set (image_at world i))) other)
    ∙ ap (λ (f : Image → Image). option_map f (world n)) (λ j image. same_picture n image j))
  where
    new : World
    new = with_clip world i repl clipr

    set : Image → Image
    set image = record image { repl = repl; clipr = clipr }

    same : SameButClip world new
    same = clip-same world i repl clipr live

    same_picture : (n : ℕ) (image : Image) → pictured new kept n image ≡ pictured world kept n image
    same_picture n image = λ j. record image { canvas = seen image.r image.windows (λ p. kept (keeping_clip world new same n p j)) }

-- what the images are to have for their pixels
set_forms : (world : World) (i : ℕ) (repl : Bool) (clipr : Rect) → IsLive world i → forms_of (with_clip world i repl clipr) ≡ forms_of world
set_forms world i repl clipr live =
    let changed : Option Image = Some (record (image_at world i) { repl = repl; clipr = clipr }) in
    let each = with_image-each world i changed (λ n slot. option_map form_of slot ≡ option_map form_of (world n)) (at (world i) live) (λ n other. refl) in
    λ j n. each n j
  where
    at : (o : Option Image) → is_some o ≡ true → Some (form_of (record (unwrap_or o no_image) { repl = repl; clipr = clipr })) ≡ option_map form_of o
    at None e = absurd (true≢false (sym e))
    at (Some image) e = refl

set_cells : (old new : World) (has : Place → Bool) → SameButClip old new → HasCells old has → HasCells new has
set_cells old new has same cells n p x stands inside =
    cells n p x (sym (ap (λ (s : Option Standing). option_map (λ (s : Standing). s.parent) s) (same.standing n)) ∙ stands) (sym (ap (λ r. holds r x) (same.r n)) ∙ inside)
    ∙ sym (λ j. option_map_or (λ m. hides_under (same.r m j) (same.windows m j) n (same.r n j) (cell_part (same.r n j) (cell_of (same.r n j) x))) (option_map (λ (s : Standing). s.parent) (same.standing n j)) false)

set_numbered : (old new : World) (count : ℕ) (spare : List ℕ) → SameButClip old new → IsNumbered old count spare → IsNumbered new count spare
set_numbered old new count spare same is = record {
  few = is.few;
  below = is.below;
  free = λ k below. none _ (same.live _ ∙ ap is_some (is.free k below));
  apart = is.apart;
  beyond = λ n past. none (new n) (same.live n ∙ ap is_some (is.beyond n past));
}
  where
    none : (o : Option Image) → is_some o ≡ false → o ≡ None
    none None e = refl
    none (Some image) e = absurd (true≢false e)

-- the world after it, and that all is sound then
pub set_shown : (lists : Lists) (pixels : KeptPixels) (spare : List ℕ) (i : ℕ) (repl : Bool) (clipr : Rect) → IsLive (with_kept (shape lists) (kept_at pixels)) i → with_kept (after_set (shape lists) i repl clipr) (kept_at pixels) ≡ after_set (with_kept (shape lists) (kept_at pixels)) i repl clipr
unfolding after_set
set_shown lists pixels spare i repl clipr live =
    set_world (shape lists) (kept_at pixels) i repl clipr ((bare_canvas (shape lists) (kept_at pixels)).live i ∙ live)

pub set_sound : (lists more : Lists) (pixels : KeptPixels) (spare : List ℕ) (i : ℕ) (repl : Bool) (clipr : Rect) → IsLive (with_kept (shape lists) (kept_at pixels)) i → (repl ≡ true → HasPoints (image_at (with_kept (shape lists) (kept_at pixels)) i).r) → IsRectNearBy (2 ^ 34) clipr → shape more ≡ after_set (shape lists) i repl clipr → made more ≡ made lists → IsSound lists pixels spare → IsSound more pixels spare
unfolding after_set
set_sound lists more pixels spare i repl clipr live points near is count sound = record {
  forest =
      let world : with_kept (shape more) (kept_at pixels) ≡ after_set (with_kept old (kept_at pixels)) i repl clipr = ap (λ (w : World). with_kept w (kept_at pixels)) is ∙ set_world old (kept_at pixels) i repl clipr bare_live in
      subst IsForest (sym world) (IsForest-after_set (with_kept old (kept_at pixels)) i repl clipr live points near sound.forest);
  forms = sound.forms ∙ sym (set_forms old i repl clipr bare_live) ∙ ap forms_of (sym is);
  cells = subst (λ (w : World). HasCells w (has_place pixels)) (sym is) (set_cells old new (has_place pixels) same sound.cells);
  numbers =
      subst (λ (w : World). IsNumbered w (made more) spare) (sym is)
      (subst (λ (n : ℕ). IsNumbered new n spare) (sym count) (set_numbered old new (made lists) spare same sound.numbers));
}
  where
    old : World
    old = shape lists

    new : World
    new = with_clip old i repl clipr

    bare_live : IsLive old i
    bare_live = (bare_canvas old (kept_at pixels)).live i ∙ live

    same : SameButClip old new
    same = clip-same old i repl clipr bare_live

-- what an image tells does not rest on its pixels
pub told_alike : (a b : World) → SameButCanvas a b → (i : ℕ) → info_of (image_at b i) ≡ info_of (image_at a i)
told_alike a b same i = λ j. record {
  r = same.r i j;
  clipr = same.clipr i j;
  repl = same.repl i j;
  chan = same.chan i j;
  parent = option_map (λ s. record { 0 = s.parent }) (same.standing i j);
  depth = same.deep i j;
  windows = length (same.windows i j);
}
