-- A window that moves on the image on which it stands, and an image that gets another min.
use Rattle.std.proofs.Common.{◌≡◌, ◌∙◌, ℕ, ◌*◌, ◌<◌, ◌≤◌, ◌^◌, Bool, true, false, List, Option, Some, None, get_or, refl, sym, ap, subst}
use Rattle.std.specs.Prelude.{option_map, unwrap_or, if◌then◌else◌}
use Rattle.std.specs.Option.{option_map_or}
use Rattle.std.proofs.lemmas.Nat.{pow_pos}
use Rattle.r9_geom.specs.declared.Point.{Point}
use Rattle.r9_geom.specs.declared.Rect.{Rect}
use Rattle.r9_geom.specs.Geometry.{area_of, holds, IsNearBy}
use Rattle.model_forest.specs.declared.Standing.{Standing}
use Rattle.model_forest.specs.declared.Window.{Window}
use Rattle.model_forest.specs.Stack.{moved, with_windows, without}
use Rattle.model_forest.specs.Steps.{after_origin, carried_rect, shifted_image}
use Rattle.model_forest.specs.World.{Image, World, fill_of, image_at, no_image, parent_of, with_image, IsForest, IsLive}
use Rattle.model_forest.proofs.Listed.{parent-apart}
use Rattle.model_forest.proofs.Placed.{height-carried, width-carried, IsForest-shifted}
use Rattle.model_forest.proofs.Uncovers.{Uncovers, Uncovers-moved}
use Rattle.model_forest.proofs.Windows.{with_windows-other}
use Rattle.model_exchanged.proofs.exchanged.InPlace.{without-moved}
use Rattle.model_kept.specs.Cells.{cell_of, cell_part, hides_on}
use Rattle.model_kept.specs.Keeping.{keeping, with_kept, Place}
use Rattle.model_kept.specs.Restack.{shifted_shape, with_list}
use Rattle.model_kept.proofs.Once.{places-forest}
use Rattle.r9_plane.specs.Pixels.{number_of}
use Rattle.r9_locate.specs.declared.locate.lists.Lists.{Lists}
use Rattle.r9_locate.specs.locate.Forms.{forms_of}
use Rattle.r9_locate.specs.locate.Table.{made, shape}
use Rattle.r9_pixels.specs.declared.keeping.KeptPixels.{KeptPixels}
use Rattle.r9_pixels.specs.Kept.{form_at, has_place, kept_at}
use Rattle.r9_pixels.specs.Places.{HasCells}
use Rattle.r9_put.specs.fills.Fills.{fill_at}
use Rattle.r9_relist.specs.relist.Leaving.{HasPlaceOf}
use Rattle.r9_relist.specs.relist.Relisting.{HasPlacesBefore, IsAsBefore, IsRelisting}
use Rattle.r9_relist.proofs.relist.Surfaces.{surface_has, unshown_has}
use Rattle.r9_forest.specs.Groups.{IsMoved}
use Rattle.r9_forest.specs.Numbered.{IsNumbered}
use Rattle.r9_forest.specs.Room.{HasFillRoom}
use Rattle.r9_forest.specs.Sound.{IsSound}
use Rattle.r9_forest.proofs.Going.{fill_left}
use Rattle.r9_forest.proofs.Numbers.{stay_numbered}
use Rattle.r9_forest.proofs.Roomy.{fills_put}
use Rattle.r9_forest.proofs.Sounding.{sound_live}

pub moved_relisting : (shape : World) (p i : ℕ) (list : List Window) → IsLive shape p → parent_of shape i ≡ Some p → IsMoved shape p i list → IsForest (with_list shape p list) → IsRelisting shape p i list
moved_relisting shape p i list live stands is ok = record {
  live = live;
  stands = stands;
  others = ap (without i) is.1 ∙ without-moved i is.0 (image_at shape p).windows;
  forest = ok;
}

-- there are places for all that is shown and hidden before
pub moved_places : (pixels : KeptPixels) (shape : World) (p i : ℕ) → IsForest shape → form_at pixels ≡ forms_of shape → HasCells shape (has_place pixels) → IsLive shape p → HasPlacesBefore shape p i (has_place pixels)
moved_places pixels shape p i ok forms cells live = record {
  surface = λ z inside. surface_has pixels shape ok forms cells (image_at shape p).depth p z refl live inside;
  hidden = λ n x other stands inside none. unshown_has shape (has_place pixels) n p x ok cells stands inside none;
  cells = λ n x other stands inside.
      let r = (image_at shape n).r in
      cells n p x stands inside ∙ ap (λ o. option_map_or (λ (m : ℕ). hides_on shape m n (cell_part r (cell_of r x))) o false) stands;
  others = λ n q x away stands inside. cells n q x stands inside;
}

-- what is given for it is what it showed, and what becomes bare gets its fill
pub moved_before : (shape : World) (kept : Place → ℕ) (p i : ℕ) (list : List Window) (left : Rect) (given fill : Point → ℕ) → IsForest shape → IsLive shape p → IsMoved shape p i list → HasPlaceOf shape p i left → ((x : Point) → holds (image_at shape i).r x ≡ true → given x ≡ kept (keeping shape i x)) → ((z : Point) → holds left z ≡ true → fill z ≡ fill_at (with_kept shape kept) (image_at (with_kept shape kept) p).chan (fill_of (with_kept shape kept) i) z) → IsAsBefore shape p i list given fill kept kept
moved_before shape kept p i list left given fill ok live is covers shown fills = record {
  others = λ place other. refl;
  pixels = λ x inside. sym (shown x inside);
  fills = fill_left shape kept i p left fill list (subst (Uncovers i (image_at shape p).windows) (sym is.1) (Uncovers-moved i is.0 (image_at shape p).windows)) (places-forest shape ok) live covers fills;
}

-- ---- pictures that were gathered

module _ (picture value : Point → ℕ) (area : Rect) (items : List ℕ) (told : (p : Point) → picture p ≡ (if holds area p then get_or items (number_of area p) 0 else 0)) (is : (p : Point) → holds area p ≡ true → get_or items (number_of area p) 0 ≡ value p) where
  pub pictured_is : (z : Point) → holds area z ≡ true → picture z ≡ value z
  pictured_is z h = told z ∙ ap (λ b. if b then get_or items (number_of area z) 0 else 0) h ∙ is z h

  pub pictured_fits : (bits : ℕ) → ((p : Point) → value p < 2 ^ bits) → (z : Point) → picture z < 2 ^ bits
  pictured_fits bits fits z = by_test (holds area z) refl
    where
      by_test : (b : Bool) → holds area z ≡ b → picture z < 2 ^ bits
      by_test true h = subst (λ (n : ℕ). n < 2 ^ bits) (sym (pictured_is z h)) (fits z)
      by_test false h = subst (λ (n : ℕ). n < 2 ^ bits) (sym (told z ∙ ap (λ b. if b then get_or items (number_of area z) 0 else 0) h)) (pow_pos bits)

-- ---- another min

pub shifted_sound : (lists more : Lists) (pixels new : KeptPixels) (spare : List ℕ) (i : ℕ) (min : Point) → IsSound lists pixels spare → IsLive (with_kept (shape lists) (kept_at pixels)) i → IsNearBy (2 ^ 34) min → shape more ≡ shifted_shape (shape lists) i min → made more ≡ made lists → with_kept (shape more) (kept_at new) ≡ with_image (with_kept (shape lists) (kept_at pixels)) i (Some (shifted_image (image_at (with_kept (shape lists) (kept_at pixels)) i) min)) → HasCells (shape more) (has_place new) → form_at new ≡ forms_of (shape more) → IsSound more new spare
shifted_sound lists more pixels new spare i min sound live near is count world cells forms = record {
  forest = subst IsForest (sym world) (IsForest-shifted (with_kept (shape lists) (kept_at pixels)) i min live near sound.forest);
  forms = forms;
  cells = cells;
  numbers =
      subst (λ (w : World). IsNumbered w (made more) spare) (sym is)
      (subst (λ (n : ℕ). IsNumbered (shifted_shape (shape lists) i min) n spare) (sym count)
      (stay_numbered (shape lists) (made lists) i spare (shifted_image (image_at (shape lists) i) min) (sound_live lists (kept_at pixels) i live) sound.numbers));
}

pub fills_shifted : (world : World) (n i : ℕ) (min : Point) → HasFillRoom world n → HasFillRoom (shifted_shape world i min) n
fills_shifted world n i min is =
    let r = (image_at world i).r in
    let same : area_of (carried_rect r r.min min) ≡ area_of r = λ j. width-carried r r.min min j * height-carried r r.min min j in
    fills_put world n i (Some (shifted_image (image_at world i) min)) (λ p stands. subst (λ (m : ℕ). m ≤ n) (sym same) (is i p stands)) is

-- ---- where a window stands

pub origin_window : (world : World) (i : ℕ) (s : Standing) (min corner : Point) → IsForest world → (image_at world i).standing ≡ Some s → (moved_to : World) → moved_to ≡ with_windows world s.parent (moved i (carried_rect (image_at world i).r (image_at world i).r.min corner) (image_at world s.parent).windows) → with_image moved_to i (Some (shifted_image (image_at moved_to i) min)) ≡ after_origin world i min corner
unfolding after_origin
origin_window world i s min corner ok stands moved_to is =
    let parent : parent_of world i ≡ Some s.parent = ap (option_map (λ (t : Standing). t.parent)) stands in
    let change : List Window → List Window = moved i (carried_rect (image_at world i).r (image_at world i).r.min corner) in
    let there : World = with_windows world s.parent (change (image_at world s.parent).windows) in
    ap (λ (v : World). with_image v i (Some (shifted_image (image_at v i) min))) is
    ∙ ap (λ (slot : Option Image). with_image there i (Some (shifted_image (unwrap_or slot no_image) min))) (with_windows-other world s.parent (change (image_at world s.parent).windows) i (parent-apart world ok i s.parent parent))
    ∙ sym (ap (λ (o : Option ℕ). with_image (option_map_or (λ p. with_windows world p (change (image_at world p).windows)) o world) i (Some (shifted_image (image_at world i) min))) parent)

pub origin_root : (world : World) (i : ℕ) (min corner : Point) → parent_of world i ≡ None → with_image world i (Some (shifted_image (image_at world i) min)) ≡ after_origin world i min corner
unfolding after_origin
origin_root world i min corner nowhere =
    let change : List Window → List Window = moved i (carried_rect (image_at world i).r (image_at world i).r.min corner) in
    sym (ap (λ (o : Option ℕ). with_image (option_map_or (λ p. with_windows world p (change (image_at world p).windows)) o world) i (Some (shifted_image (image_at world i) min))) nowhere)
