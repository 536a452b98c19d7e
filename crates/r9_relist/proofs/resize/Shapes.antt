-- The tables of images in which one that stands nowhere gets another rectangle and another plane.
use Rattle.std.proofs.Common.{◌≡◌, ◌≢◌, ◌∙◌, ℕ, ◌*◌, ◌<◌, ◌^◌, arith, pos, All, Bool, false, Option, Some, None, refl, sym, ap, ⊎_elim, eq-eqb}
use Rattle.std.specs.Prelude.{◌==◌, is_some, option_map, if◌then◌else◌}
use Rattle.std.specs.Option.{option_map_or}
use Rattle.std.proofs.lemmas.Bool.{cases_eq, ne_eqb, true≢false}
use Rattle.std.proofs.lemmas.Int.{ints}
use Rattle.r9_geom.specs.declared.Point.{Point}
use Rattle.r9_geom.specs.declared.Rect.{Rect}
use Rattle.r9_geom.specs.Geometry.{area_of, height, width}
use Rattle.r9_geom.proofs.GeometryLemmas.{distance_is}
use Rattle.r9_plane.specs.declared.plane.Plane.{Plane}
use Rattle.r9_plane.specs.Pixels.{chan_of, rect_of}
use Rattle.model_forest.specs.declared.Standing.{Standing}
use Rattle.model_forest.specs.World.{Image, World, image_at, no_rect, parent_of, with_image, IsForest, IsLive}
use Rattle.model_forest.proofs.Changes.{with_image-at, with_image-other, World-changed}
use Rattle.model_kept.specs.Keeping.{own, Place}
use Rattle.model_kept.specs.Restack.{with_list, with_own}
use Rattle.model_kept.proofs.Worlds.{image_at-slot}
use Rattle.r9_locate.specs.locate.Forms.{form_of, forms_of, Form}
use Rattle.r9_pixels.specs.Owns.{plane_form}
use Rattle.r9_pixels.specs.Places.{with_form, with_places, HasCells, StandsOn}
use Rattle.r9_locate.specs.watched.Moments.{with_moment, Moment}
use Rattle.r9_relist.proofs.relist.Near.{nearby}
use Rattle.model_exchanged.specs.resize.Resize.{sized, CanResize}
use Rattle.model_exchanged.proofs.resize.Sizes.{rect-forest}
use Rattle.r9_relist.specs.resize.Sizes.{with_rects}
use Rattle.r9_relist.proofs.resize.Resized.{rects_at}

-- of two images under a number the later one stays
pub put_again : (world : World) (i : ℕ) (first second : Option Image) → with_image (with_image world i first) i second ≡ with_image world i second
put_again world i first second =
    World-changed world (with_image (with_image world i first) i second) i second (with_image-at (with_image world i first) i second)
    (λ n other. with_image-other (with_image world i first) i n second other ∙ with_image-other world i n first other)

-- and one that was there
pub put_own : (world : World) (i : ℕ) → IsLive world i → with_image world i (Some (image_at world i)) ≡ world
put_own world i live = sym (World-changed world world i (Some (image_at world i)) (by_slot (world i) refl) (λ n other. refl))
  where
    by_slot : (o : Option Image) → world i ≡ o → world i ≡ Some (image_at world i)
    by_slot None e = absurd (true≢false (sym live ∙ ap is_some e))
    by_slot (Some image) e = e ∙ ap (λ (im : Image). Some im) (sym (image_at-slot world i image e))

-- the list that it has
pub list_own : (world : World) (i : ℕ) → IsLive world i → with_list world i (image_at world i).windows ≡ world
list_own world i live = put_own world i live

-- the rectangles that it had
pub rects_again : (world : World) (i : ℕ) (r clipr a b : Rect) → IsLive world i → a ≡ (image_at world i).r → b ≡ (image_at world i).clipr → with_rects (with_rects world i r clipr) i a b ≡ world
rects_again world i r clipr a b live same clip =
    ap (λ (im : Image). with_image (with_rects world i r clipr) i (Some (record im { r = a; clipr = b }))) (rects_at world i r clipr)
    ∙ put_again world i (Some (record (image_at world i) { r = r; clipr = clipr })) (Some (record (image_at world i) { r = a; clipr = b }))
    ∙ (λ j. with_image world i (Some (record (image_at world i) { r = same j; clipr = clip j })))
    ∙ put_own world i live

-- ---- forms

stands_none : (s : Option Standing) → option_map (λ (s : Standing). s.parent) s ≡ None → is_some s ≡ false
stands_none None e = refl
stands_none (Some s) e = cc

pub root_form : (world : World) (i : ℕ) → IsLive world i → parent_of world i ≡ None → option_map (λ (form : Form). form.is_window) (forms_of world i) ≡ Some false
root_form world i live root = by_slot (world i) refl
  where
    by_slot : (o : Option Image) → world i ≡ o → option_map (λ (form : Form). form.is_window) (option_map form_of o) ≡ Some false
    by_slot None e = absurd (true≢false (sym live ∙ ap is_some e))
    by_slot (Some image) e =
        ap (λ b. Some b) (stands_none image.standing (ap (λ (im : Image). option_map (λ (s : Standing). s.parent) im.standing) (sym (image_at-slot world i image e)) ∙ root))

pub form_chan : (world : World) (i : ℕ) → IsLive world i → option_map (λ (form : Form). form.chan) (forms_of world i) ≡ Some (image_at world i).chan
form_chan world i live = by_slot (world i) refl
  where
    by_slot : (o : Option Image) → world i ≡ o → option_map (λ (form : Form). form.chan) (option_map form_of o) ≡ Some (image_at world i).chan
    by_slot None e = absurd (true≢false (sym live ∙ ap is_some e))
    by_slot (Some image) e = ap (λ (im : Image). Some im.chan) (sym (image_at-slot world i image e))

pub form_rect : (world : World) (i : ℕ) → IsLive world i → option_map_or (λ (form : Form). form.r) (forms_of world i) no_rect ≡ (image_at world i).r
form_rect world i live = by_slot (world i) refl
  where
    by_slot : (o : Option Image) → world i ≡ o → option_map_or (λ (form : Form). form.r) (option_map form_of o) no_rect ≡ (image_at world i).r
    by_slot None e = absurd (true≢false (sym live ∙ ap is_some e))
    by_slot (Some image) e = ap (λ (im : Image). im.r) (sym (image_at-slot world i image e))

-- what a plane of an image's form has
pub record IsPlaneOf (world : World) (i : ℕ) (plane : Plane) : Type 0 where
  pub rect : rect_of plane ≡ (image_at world i).r
  pub chan : chan_of plane ≡ (image_at world i).chan

pub plane_is : (world : World) (i : ℕ) (plane : Plane) → IsLive world i → forms_of world i ≡ Some (plane_form plane) → IsPlaneOf world i plane
plane_is world i plane live form = by_slot (world i) refl form
  where
    same : (a b : Form) → Some a ≡ Some b → a ≡ b
    same a b e = cc

    by_slot : (o : Option Image) → world i ≡ o → option_map form_of o ≡ Some (plane_form plane) → IsPlaneOf world i plane
    by_slot None e is = absurd (true≢false (sym live ∙ ap is_some e))
    by_slot (Some image) e is =
        let one : form_of image ≡ plane_form plane = same (form_of image) (plane_form plane) is in
        record {
          rect = sym (ap (λ (f : Form). f.r) one) ∙ ap (λ (im : Image). im.r) (sym (image_at-slot world i image e));
          chan = sym (ap (λ (f : Form). f.chan) one) ∙ ap (λ (im : Image). im.chan) (sym (image_at-slot world i image e));
        }

-- with a plane of another rectangle it has the form of the image then
pub rects_forms : (world : World) (i : ℕ) (plane : Plane) (clipr : Rect) → IsLive world i → parent_of world i ≡ None → chan_of plane ≡ (image_at world i).chan → with_form i (Some (plane_form plane)) (forms_of world) ≡ forms_of (with_rects world i (rect_of plane) clipr)
rects_forms world i plane clipr live root chan = λ j n. at n j
  where
    now : Image
    now = record (image_at world i) { r = rect_of plane; clipr = clipr }

    form : plane_form plane ≡ form_of now
    form = λ j. record { r = rect_of plane; chan = chan j; is_window = sym (stands_none (image_at world i).standing root) j }

    at : (n : ℕ) → with_form i (Some (plane_form plane)) (forms_of world) n ≡ forms_of (with_rects world i (rect_of plane) clipr) n
    at n =
        ⊎_elim
        (λ (here : n ≡ i).
        ap (λ b. if b then Some (plane_form plane) else forms_of world n) (eq-eqb n i here)
        ∙ ap (λ (f : Form). Some f) form
        ∙ sym (ap (λ b. option_map form_of (if b then Some now else world n)) (eq-eqb n i here)))
        (λ (other : n ≢ i).
        ap (λ b. if b then Some (plane_form plane) else forms_of world n) (ne_eqb n i other)
        ∙ sym (ap (λ b. option_map form_of (if b then Some now else world n)) (ne_eqb n i other)))
        (cases_eq n i)

-- ---- what is put back

pub form_back : (forms : ℕ → Option Form) (i : ℕ) (a b : Option Form) → forms i ≡ b → with_form i b (with_form i a forms) ≡ forms
form_back forms i a b is = λ j n. at n j
  where
    at : (n : ℕ) → with_form i b (with_form i a forms) n ≡ forms n
    at n =
        ⊎_elim
        (λ (here : n ≡ i). ap (λ t. if t then b else (if n == i then a else forms n)) (eq-eqb n i here) ∙ sym is ∙ ap forms (sym here))
        (λ (other : n ≢ i). (λ k. if ne_eqb n i other k then b else (if ne_eqb n i other k then a else forms n)))
        (cases_eq n i)

pub moment_back : (moments : ℕ → Option Moment) (i : ℕ) (a b : Option Moment) → moments i ≡ b → with_moment i b (with_moment i a moments) ≡ moments
moment_back moments i a b is = λ j n. at n j
  where
    at : (n : ℕ) → with_moment i b (with_moment i a moments) n ≡ moments n
    at n =
        ⊎_elim
        (λ (here : n ≡ i). ap (λ t. if t then b else (if n == i then a else moments n)) (eq-eqb n i here) ∙ sym is ∙ ap moments (sym here))
        (λ (other : n ≢ i). (λ k. if ne_eqb n i other k then b else (if ne_eqb n i other k then a else moments n)))
        (cases_eq n i)

pub own_back : (kept : Place → ℕ) (i : ℕ) (a b : Point → ℕ) → ((p : Point) → kept (own i p) ≡ b p) → with_own i b (with_own i a kept) ≡ kept
own_back kept i a b is = λ j place. at place j
  where
    at : (place : Place) → with_own i b (with_own i a kept) place ≡ kept place
    at place =
        ⊎_elim
        (λ (here : place.image ≡ i).
        ap (λ t. if t then b place.at else (if place.image == i then a place.at else kept place)) (eq-eqb place.image i here)
        ∙ sym (is place.at) ∙ (λ j. kept (record { image = sym here j; at = place.at })))
        (λ (other : place.image ≢ i). (λ k. if ne_eqb place.image i other k then b place.at else (if ne_eqb place.image i other k then a place.at else kept place)))
        (cases_eq place.image i)

-- the places of the image, and those of others
pub places_here : (has : Place → Bool) (i : ℕ) (a : Point → Bool) (p : Point) → with_places i a has (own i p) ≡ a p
places_here has i a p = ap (λ t. if t then a p else has (own i p)) (eq-eqb i i refl)

pub places_there : (has : Place → Bool) (i n : ℕ) (a : Point → Bool) (p : Point) → n ≢ i → with_places i a has (own n p) ≡ has (own n p)
places_there has i n a p other = ap (λ t. if t then a p else has (own n p)) (ne_eqb n i other)

pub own_here : (kept : Place → ℕ) (i : ℕ) (a : Point → ℕ) (p : Point) → with_own i a kept (own i p) ≡ a p
own_here kept i a p = ap (λ t. if t then a p else kept (own i p)) (eq-eqb i i refl)

pub own_there : (kept : Place → ℕ) (i : ℕ) (a : Point → ℕ) (place : Place) → place.image ≢ i → with_own i a kept place ≡ kept place
own_there kept i a place other = ap (λ t. if t then a place.at else kept place) (ne_eqb place.image i other)

-- ---- its windows

pub own_on : (world : World) (i : ℕ) → IsForest world → IsLive world i → All (StandsOn world i) (image_at world i).windows
own_on world i ok live = λ k d below. record { stands = (ok.windows i live k d below).stands; size = (ok.windows i live k d below).size; near = (nearby world ok i live).1 k d below }

-- ---- its size

pub sized_area : (columns rows : ℕ) → area_of (sized columns rows) ≡ columns * rows
sized_area columns rows = λ j. across j * down j
  where
    across : width (sized columns rows) ≡ columns
    across = let is = distance_is (pos 0) (pos columns) (omega (arith, ints)) in omega (arith, ints, is)

    down : height (sized columns rows) ≡ rows
    down = let is = distance_is (pos 0) (pos rows) (omega (arith, ints)) in omega (arith, ints, is)

pub sized_forest : (world : World) (i columns rows : ℕ) → IsForest world → CanResize world i → columns < 2 ^ 32 → rows < 2 ^ 32 → IsForest (with_rects world i (sized columns rows) (sized columns rows))
sized_forest world i columns rows ok can few low =
    rect-forest world i columns rows (image_at world i).canvas ok can few low (ok.images i can.live).raws

-- the places of the windows of others are the same
pub cells_still : (world : World) (i : ℕ) (has new : Place → Bool) → parent_of world i ≡ None → ((place : Place) → place.image ≢ i → new place ≡ has place) → HasCells world has → HasCells world new
cells_still world i has new nowhere same cells n p x stands inside =
    same (own n x) (λ is. let none : None ≡ Some p = sym nowhere ∙ ap (parent_of world) (sym is) ∙ stands in cc) ∙ cells n p x stands inside
