-- A window is put into the tables, and taken out again where there is no room for its tiles.
use Rattle.std.proofs.Common.{◌≡◌, ◌≢◌, ◌∙◌, ℕ, true, false, All, Bool, List, Option, Some, None, Result, Ok, Err, sym, ap, subst, ⊎_elim, eq-eqb, arith}
use Rattle.std.specs.Prelude.{◌==◌, ◌&&◌, option_and_then, option_map, unwrap_or, OnErr, if◌then◌else◌}
use Rattle.std.specs.Option.{option_map_or}
use Rattle.std.specs.List.{list_any}
use Rattle.std.proofs.lemmas.Bool.{cases_eq, ne_eqb}
use Rattle.r9_geom.specs.declared.Rect.{Rect}
use Rattle.r9_geom.specs.Geometry.{holds}
use Rattle.model_forest.specs.declared.Standing.{Standing}
use Rattle.model_forest.specs.declared.Window.{Window}
use Rattle.model_forest.specs.World.{Image, World, image_at, no_image, parent_of, with_image, IsLive}
use Rattle.model_forest.proofs.Changes.{live-apart, World-same, with_image-at, with_image-other}
use Rattle.model_forest.proofs.Listed.{All-listed}
use Rattle.model_kept.specs.Cells.{cell_of}
use Rattle.model_kept.specs.Keeping.{Place}
use Rattle.model_kept.specs.Restack.{with_own, IsAlone}
use Rattle.r9_locate.specs.locate.Forms.{form_of, forms_of, Form}
use Rattle.r9_cells.specs.Fitting.{hides_cell, meets, standing_cell}
use Rattle.r9_pixels.specs.declared.keeping.KeptPixels.{KeptPixels}
use Rattle.r9_pixels.specs.Kept.{form_at, has_place, kept_at, moment}
use Rattle.r9_pixels.specs.Owns.{has_in, kept_in, moment_in, own_at}
use Rattle.r9_pixels.specs.Places.{standing_at, with_form, with_places, HasCells, HasLaterTaken, StandsOn}
use Rattle.r9_pixels.proofs.Owning.{form_none}
use Rattle.r9_locate.specs.watched.Moments.{with_moment}
use Rattle.r9_relist.specs.relist.Relisting.{IsRelisting}
use Rattle.r9_relist.proofs.relist.Covering.{cell_below}
use Rattle.r9_relist.proofs.relist.Front.{at_listed}
use Rattle.r9_relist.proofs.relist.Moments.{moment_same}
use Rattle.r9_relist.proofs.relist.Relisted.{relist_apart, relist_listed}
use Rattle.r9_relist.specs.arrive.Arriving.{IsLeft, IsLeftOf}

pub put_out : (world : World) (i : ℕ) (image : Image) → world i ≡ None → with_image (with_image world i (Some image)) i None ≡ world
put_out world i image free =
    World-same (with_image (with_image world i (Some image)) i None) world
    (λ n.
    ⊎_elim
    (λ (here : n ≡ i). ap (with_image (with_image world i (Some image)) i None) here ∙ with_image-at (with_image world i (Some image)) i None ∙ sym free ∙ ap world (sym here))
    (λ (other : n ≢ i). with_image-other (with_image world i (Some image)) i n None other ∙ with_image-other world i n (Some image) other)
    (cases_eq n i))

pub form_out : (forms : ℕ → Option Form) (i : ℕ) (form : Form) → forms i ≡ None → with_form i None (with_form i (Some form) forms) ≡ forms
form_out forms i form free = λ j n. at n j
  where
    at : (n : ℕ) → with_form i None (with_form i (Some form) forms) n ≡ forms n
    at n =
        ⊎_elim
        (λ (here : n ≡ i). ap (λ b. if b then None else (if b then Some form else forms n)) (eq-eqb n i here) ∙ sym free ∙ ap forms (sym here))
        (λ (other : n ≢ i). ap (λ b. if b then None else (if b then Some form else forms n)) (ne_eqb n i other))
        (cases_eq n i)

-- what has no form keeps nothing
pub kept_out : (pixels : KeptPixels) (i : ℕ) → form_at pixels i ≡ None → with_own i (λ _. 0) (kept_at pixels) ≡ kept_at pixels
kept_out pixels i free = λ j place. at place j
  where
    at : (place : Place) → with_own i (λ _. 0) (kept_at pixels) place ≡ kept_at pixels place
    at place =
        ⊎_elim
        (λ (here : place.image ≡ i).
        ap (λ b. if b then 0 else kept_at pixels place) (eq-eqb place.image i here)
        ∙ sym (ap (λ o. option_map_or (kept_in pixels.cells place.image place.at) o 0) (form_none (own_at pixels.owns.items place.image) (ap (form_at pixels) here ∙ free))))
        (λ (other : place.image ≢ i). ap (λ b. if b then 0 else kept_at pixels place) (ne_eqb place.image i other))
        (cases_eq place.image i)

pub has_out : (pixels : KeptPixels) (i : ℕ) → form_at pixels i ≡ None → with_places i (λ _. false) (has_place pixels) ≡ has_place pixels
has_out pixels i free = λ j place. at place j
  where
    at : (place : Place) → with_places i (λ _. false) (has_place pixels) place ≡ has_place pixels place
    at place =
        ⊎_elim
        (λ (here : place.image ≡ i).
        ap (λ b. if b then false else has_place pixels place) (eq-eqb place.image i here)
        ∙ sym (ap (λ o. option_map_or (has_in pixels.cells place.image place.at) o false) (form_none (own_at pixels.owns.items place.image) (ap (form_at pixels) here ∙ free))))
        (λ (other : place.image ≢ i). ap (λ b. if b then false else has_place pixels place) (ne_eqb place.image i other))
        (cases_eq place.image i)

-- nor has it a moment
pub moment_out : (pixels : KeptPixels) (i : ℕ) → form_at pixels i ≡ None → with_moment i None (moment pixels) ≡ moment pixels
moment_out pixels i free = moment_same (moment pixels) i None (ap (option_and_then moment_in) (form_none (own_at pixels.owns.items i) free))

-- what holds holds after an error
pub on_err : {T E P : Type 0} (r : Result T E) → P → OnErr r P
on_err (Ok x) p = tt
on_err (Err e) p = p

-- what the images have for their pixels
pub put_forms : (shape : World) (forms : ℕ → Option Form) (form : Form) (i : ℕ) (image : Image) → forms ≡ forms_of shape → form ≡ form_of image → with_form i (Some form) forms ≡ forms_of (with_image shape i (Some image))
put_forms shape forms form i image same is = λ j n. at n j
  where
    at : (n : ℕ) → with_form i (Some form) forms n ≡ forms_of (with_image shape i (Some image)) n
    at n =
        ⊎_elim
        (λ (here : n ≡ i).
        ap (λ b. if b then Some form else forms n) (eq-eqb n i here)
        ∙ ap (λ f. Some f) is
        ∙ sym (ap (λ b. option_map form_of (if b then Some image else shape n)) (eq-eqb n i here)))
        (λ (other : n ≢ i).
        ap (λ b. if b then Some form else forms n) (ne_eqb n i other)
        ∙ ap (λ (fs : ℕ → Option Form). fs n) same
        ∙ sym (ap (λ b. option_map form_of (if b then Some image else shape n)) (ne_eqb n i other)))
        (cases_eq n i)

-- of a later list of image q only cells that meet the areas lack a tile, but for those that the list with the window hides
pub later_taken : (world : World) (i : ℕ) (image : Image) (p q : ℕ) (list later : List Window) (areas : List Rect) (has : Place → Bool) → world i ≡ None → IsLive world q → IsAlone world i → IsRelisting (with_image world i (Some image)) p i list → All (StandsOn (with_image world i (Some image)) q) later → HasCells world has → IsLeft world p list q later areas → IsLeftOf world p list q later areas i image.r → HasLaterTaken (with_image world i (Some image)) p list q later 0 areas has
later_taken world i image p q list later areas has free live alone change on cells left left_own at w x window inside hidden none unlisted =
    (omega arith, ⊎_elim own_meets other_meets (cases_eq n i))
  where
    mid : World
    mid = with_image world i (Some image)

    n : ℕ
    n = w.image

    at_other : (m : ℕ) → m ≢ i → image_at mid m ≡ image_at world m
    at_other m other = ap (λ o. unwrap_or o no_image) (with_image-other world i m (Some image) other)

    at_q : image_at mid q ≡ image_at world q
    at_q = at_other q (live-apart world i q free live)

    at_p : image_at mid p ≡ image_at world p
    at_p = at_other p (λ same. relist_apart mid p list change.live change.forest i change.stands (sym same))

    stands : parent_of mid n ≡ Some q
    stands =
        let found = All-listed (StandsOn mid q) later n on (at_listed later at w window) in
        subst (λ m. parent_of mid m ≡ Some q) found.1 found.2.stands

    own_meets : n ≡ i → meets areas (standing_at mid later n x) ≡ true
    own_meets same =
        let at_n : image_at mid n ≡ image = ap (image_at mid) same ∙ ap (λ o. unwrap_or o no_image) (with_image-at world i (Some image)) in
        let k = cell_of image.r x in
        let listed = relist_listed mid p list change.live change.forest i change.stands in
        (λ j. meets areas (standing_cell later (same j) (at_n j).r (cell_of (at_n j).r x)))
        ∙ left_own at w k window same (cell_below image.r x (ap (λ (im : Image). holds im.r x) (sym at_n) ∙ inside))
        (sym (λ j. hides_cell (at_q j).r later (same j) (at_n j).r (cell_of (at_n j).r x)) ∙ hidden)
        (sym (ap (λ b. b && hides_cell (image_at world p).r list i image.r k) listed)
        ∙ sym (λ j. list_any (λ (v : Window). v.image == same j) list && hides_cell (at_p j).r list (same j) (at_n j).r (cell_of (at_n j).r x))
        ∙ unlisted)

    other_meets : n ≢ i → meets areas (standing_at mid later n x) ≡ true
    other_meets other =
        let at_n = at_other n other in
        let r = (image_at world n).r in
        let within : holds r x ≡ true = ap (λ (im : Image). holds im.r x) (sym at_n) ∙ inside in
        let was : parent_of world n ≡ Some q = ap (λ (im : Image). option_map (λ (s : Standing). s.parent) im.standing) (sym at_n) ∙ stands in
        (λ j. meets areas (standing_cell later n (at_n j).r (cell_of (at_n j).r x)))
        ∙ left at w (cell_of r x) window (cell_below r x within)
        (sym (λ j. hides_cell (at_q j).r later n (at_n j).r (cell_of (at_n j).r x)) ∙ hidden)
        (sym (cells n q x was within) ∙ none)
        (sym (λ j. list_any (λ (v : Window). v.image == n) list && hides_cell (at_p j).r list n (at_n j).r (cell_of (at_n j).r x)) ∙ unlisted)
