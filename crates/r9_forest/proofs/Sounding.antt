-- Lists, pixels and numbers stay sound.
use Rattle.std.proofs.Common.{◌≡◌, ◌≢◌, ◌∙◌, ℕ, ◌+◌, ◌<◌, ◌^◌, Bool, true, List, Option, Some, None, refl, sym, ap, subst, arith, eq-eqb, ⊎_elim}
use Rattle.std.specs.Prelude.{max, option_map, unwrap_or, if◌then◌else◌}
use Rattle.std.proofs.lemmas.Bool.{cases_eq, ne_eqb}
use Rattle.std.proofs.lemmas.Nat.{pow_pos}
use Rattle.r9_geom.specs.declared.Point.{Point}
use Rattle.r9_geom.specs.declared.Rect.{Rect}
use Rattle.r9_geom.specs.Geometry.{holds, IsOrdered, IsRectNearBy}
use Rattle.model_pixel.specs.Channels.{depth, is_descriptor}
use Rattle.model_forest.specs.declared.Window.{Window}
use Rattle.model_forest.specs.Stack.{with_windows}
use Rattle.model_forest.specs.World.{Image, World, image_at, no_image, IsForest, IsLive}
use Rattle.model_kept.specs.Keeping.{with_kept, Place}
use Rattle.model_kept.specs.Restack.{with_list, with_own}
use Rattle.r9_plane.specs.declared.plane.Plane.{Plane}
use Rattle.r9_plane.specs.Pixels.{pixel_at, rect_of}
use Rattle.r9_locate.specs.numbered.Numbered.{value_at}
use Rattle.r9_locate.specs.declared.locate.lists.Frame.{Frame}
use Rattle.r9_locate.specs.declared.locate.lists.Lists.{Lists}
use Rattle.r9_locate.specs.locate.Forms.{forms_of}
use Rattle.r9_locate.specs.locate.Lists.{frame_image}
use Rattle.r9_locate.specs.locate.Table.{made, shape}
use Rattle.r9_pixels.specs.declared.keeping.KeptPixels.{KeptPixels}
use Rattle.r9_pixels.specs.Kept.{form_at, has_place, kept_at, IsUnchanged}
use Rattle.r9_pixels.specs.Owns.{plane_form}
use Rattle.r9_pixels.specs.Places.{with_form, with_places, HasCells}
use Rattle.r9_relist.specs.arrive.Arriving.{bare_window, listed, with_coming}
use Rattle.r9_forest.specs.Numbered.{bare_image, IsNumbered}
use Rattle.r9_forest.specs.Sound.{IsSound}
use Rattle.r9_relist.proofs.arrive.Bare.{bared_forest, bared_whole, bared_windows}
use Rattle.r9_relist.proofs.arrive.Canvases.{bare_canvas, IsForest-canvas}
use Rattle.r9_forest.proofs.Making.{made_cells, made_forest, made_forms, with_made, IsPlane}
use Rattle.r9_forest.proofs.Numbers.{list_numbered, put_numbered, IsNext}

-- where all is the same
pub sound_same : (lists more : Lists) (pixels new : KeptPixels) (spare : List ℕ) → shape more ≡ shape lists → made more ≡ made lists → IsUnchanged pixels new → IsSound lists pixels spare → IsSound more new spare
sound_same lists more pixels new spare world count kept sound = record {
  forest =
      let same : with_kept (shape more) (kept_at new) ≡ with_kept (shape lists) (kept_at pixels) = λ j. with_kept (world j) (kept.kept j) in
      subst IsForest (sym same) sound.forest;
  forms = kept.forms ∙ sound.forms ∙ ap forms_of (sym world);
  cells = subst (λ (w : World). HasCells w (has_place new)) (sym world) (subst (HasCells (shape lists)) (sym kept.has) sound.cells);
  numbers = subst (λ (w : World). IsNumbered w (made more) spare) (sym world) (subst (λ (n : ℕ). IsNumbered (shape lists) n spare) (sym count) sound.numbers);
}

-- lists have no pixels
pub shape_bare : (lists : Lists) (n : ℕ) (p : Point) → (image_at (shape lists) n).canvas p ≡ 0
unfolding shape
shape_bare lists n p = at (value_at lists.frames n)
  where
    at : (o : Option Frame) → (unwrap_or (option_map frame_image o) no_image).canvas p ≡ 0
    at None = refl
    at (Some frame) = refl

-- the image that is made: of these channels, at a place near 0, under a number that none has, and with a plane of its pixels
pub record IsComing (lists : Lists) (pixels : KeptPixels) (plane : Plane) (i : ℕ) (r : Rect) (chan raw : ℕ) : Type 0 where
  pub free : shape lists i ≡ None
  pub lawful : is_descriptor chan ≡ true
  pub fits : raw < 2 ^ depth chan
  pub near : IsRectNearBy (2 ^ 34) r
  pub ordered : IsOrdered r
  pub whole : IsPlane plane r chan raw

coming_kept : (lists : Lists) (pixels : KeptPixels) (plane : Plane) (spare : List ℕ) (i : ℕ) (r : Rect) (chan raw : ℕ) → IsSound lists pixels spare → IsComing lists pixels plane i r chan raw → IsForest (with_kept (with_made (shape lists) i r chan) (with_own i (pixel_at plane) (kept_at pixels)))
coming_kept lists pixels plane spare i r chan raw sound is =
    made_forest (shape lists) (kept_at pixels) plane i r chan raw is.free is.lawful is.fits is.near is.ordered sound.forest is.whole

-- the lists with it are a world of images
pub coming_forest : (lists : Lists) (pixels : KeptPixels) (plane : Plane) (spare : List ℕ) (i : ℕ) (r : Rect) (chan raw : ℕ) → IsSound lists pixels spare → IsComing lists pixels plane i r chan raw → IsForest (with_made (shape lists) i r chan)
coming_forest lists pixels plane spare i r chan raw sound is =
    IsForest-canvas (with_kept new kept) new (bare_canvas new kept)
    (λ n p live. let none = bare n p in let some = pow_pos (depth (image_at new n).chan) in omega (arith, none, some))
    (coming_kept lists pixels plane spare i r chan raw sound is)
  where
    new : World
    new = with_made (shape lists) i r chan

    kept : Place → ℕ
    kept = with_own i (pixel_at plane) (kept_at pixels)

    slot : Bool → ℕ → Option Image
    slot b n = if b then Some (bare_image r chan) else shape lists n

    bare : (n : ℕ) (p : Point) → (image_at new n).canvas p ≡ 0
    bare n p =
        ⊎_elim
        (λ (here : n ≡ i). ap (λ b. (unwrap_or (slot b n) no_image).canvas p) (eq-eqb n i here))
        (λ (other : n ≢ i). ap (λ b. (unwrap_or (slot b n) no_image).canvas p) (ne_eqb n i other) ∙ shape_bare lists n p)
        (cases_eq n i)

-- and all is sound then
pub coming_sound : (lists more : Lists) (pixels new : KeptPixels) (plane : Plane) (spare rest : List ℕ) (i : ℕ) (r : Rect) (chan raw : ℕ) → IsSound lists pixels spare → IsComing lists pixels plane i r chan raw → IsNext (shape lists) (made lists) spare rest i → shape more ≡ with_made (shape lists) i r chan → made more ≡ max (made lists) (i + 1) → made lists + 1 < 2 ^ 32 → kept_at new ≡ with_own i (pixel_at plane) (kept_at pixels) → has_place new ≡ with_places i (holds (rect_of plane)) (has_place pixels) → form_at new ≡ with_form i (Some (plane_form plane)) (form_at pixels) → IsSound more new rest
coming_sound lists more pixels new plane spare rest i r chan raw sound is next world count few kept has forms = record {
  forest =
      let same : with_kept (shape more) (kept_at new) ≡ with_kept (with_made (shape lists) i r chan) (with_own i (pixel_at plane) (kept_at pixels)) = λ j. with_kept (world j) (kept j) in
      subst IsForest (sym same) (coming_kept lists pixels plane spare i r chan raw sound is);
  forms = forms ∙ made_forms (shape lists) (form_at pixels) plane i r chan raw sound.forms is.whole ∙ ap forms_of (sym world);
  cells =
      subst (λ (w : World). HasCells w (has_place new)) (sym world)
      (subst (HasCells (with_made (shape lists) i r chan)) (sym has)
      (made_cells (shape lists) (kept_at pixels) (has_place pixels) (holds (rect_of plane)) i r chan is.free sound.forest sound.cells));
  numbers =
      subst (λ (w : World). IsNumbered w (made more) rest) (sym world)
      (subst (λ (n : ℕ). IsNumbered (with_made (shape lists) i r chan) n rest) (sym count)
      (put_numbered (shape lists) (made lists) i rest (bare_image r chan) next.most few next.apart next.others));
}

-- and where a window comes
pub window_sound : (lists more : Lists) (pixels new : KeptPixels) (spare rest : List ℕ) (i parent fill : ℕ) (r : Rect) (ws : List Window) → IsSound lists pixels spare → IsLive (with_coming (shape lists) i parent fill r) parent → IsNext (shape lists) (made lists) spare rest i → shape more ≡ listed (shape lists) i parent fill r ws → made more ≡ max (made lists) (i + 1) → made lists + 1 < 2 ^ 32 → IsForest (with_kept (shape more) (kept_at new)) → HasCells (shape more) (has_place new) → form_at new ≡ forms_of (shape more) → IsSound more new rest
window_sound lists more pixels new spare rest i parent fill r ws sound live next world count few forest cells forms = record {
  forest = forest;
  forms = forms;
  cells = cells;
  numbers =
      subst (λ (w : World). IsNumbered w (made more) rest) (sym world)
      (subst (λ (n : ℕ). IsNumbered (listed (shape lists) i parent fill r ws) n rest) (sym count)
      (list_numbered (with_coming (shape lists) i parent fill r) (max (made lists) (i + 1)) parent rest ws live
      (put_numbered (shape lists) (made lists) i rest (bare_window (shape lists) parent fill r) next.most few next.apart next.others)));
}

-- and where an image gets another list
pub list_sound : (lists more : Lists) (pixels new : KeptPixels) (spare : List ℕ) (p : ℕ) (ws : List Window) → IsSound lists pixels spare → IsLive (shape lists) p → shape more ≡ with_list (shape lists) p ws → made more ≡ made lists → IsForest (with_kept (shape more) (kept_at new)) → HasCells (shape more) (has_place new) → form_at new ≡ forms_of (shape more) → IsSound more new spare
list_sound lists more pixels new spare p ws sound live world count forest cells forms = record {
  forest = forest;
  forms = forms;
  cells = cells;
  numbers =
      subst (λ (w : World). IsNumbered w (made more) spare) (sym world)
      (subst (λ (n : ℕ). IsNumbered (with_list (shape lists) p ws) n spare) (sym count) (list_numbered (shape lists) (made lists) p spare ws live sound.numbers));
}

-- ---- lists and their world

-- what is live there is live in the lists, with the same windows
pub sound_live : (lists : Lists) (kept : Place → ℕ) (i : ℕ) → IsLive (with_kept (shape lists) kept) i → IsLive (shape lists) i
sound_live lists kept i live = (bare_canvas (shape lists) kept).live i ∙ live

pub sound_windows : (lists : Lists) (kept : Place → ℕ) (i : ℕ) → (image_at (shape lists) i).windows ≡ (image_at (with_kept (shape lists) kept) i).windows
sound_windows lists kept i = (bare_canvas (shape lists) kept).windows i

-- lists alone are a world of images, and so with another list
pub sound_forest : (lists : Lists) (kept : Place → ℕ) → IsForest (with_kept (shape lists) kept) → IsForest (shape lists)
sound_forest lists kept ok = subst IsForest (bared_whole lists kept) (bared_forest (with_kept (shape lists) kept) ok)

pub sound_list : (lists : Lists) (kept : Place → ℕ) (p : ℕ) (ws : List Window) → IsForest (with_windows (with_kept (shape lists) kept) p ws) → IsForest (with_list (shape lists) p ws)
sound_list lists kept p ws ok =
    subst IsForest (bared_windows (with_kept (shape lists) kept) p ws ∙ ap (λ (s : World). with_list s p ws) (bared_whole lists kept))
    (bared_forest (with_windows (with_kept (shape lists) kept) p ws) ok)
