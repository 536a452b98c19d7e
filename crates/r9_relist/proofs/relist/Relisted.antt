-- Another list of the windows of an image: what restacking asks for, and what holds then.
use Rattle.std.proofs.Common.{◌≡◌, ◌≢◌, ◌∙◌, ℕ, ◌^◌, ◌≤◌, Bool, true, false, All, List, Option, Some, None, refl, sym, ap, subst, ⊎_elim, ◌*◌, arith}
use Rattle.std.specs.Prelude.{◌==◌, ◌&&◌, ◌||◌, is_some, not, option_map, unwrap_or, if◌then◌else◌}
use Rattle.std.specs.Option.{option_map_or}
use Rattle.std.specs.List.{list_any}
use Rattle.std.proofs.lemmas.Bool.{and_parts, cases_eq, or_left, or_right, true≢false}
use Rattle.std.proofs.lemmas.Bool.Decides.{Decides-eqb}
use Rattle.std.proofs.lemmas.Int.{ints}
use Rattle.std.proofs.lemmas.List.Elements.{All-weaker}
use Rattle.r9_geom.specs.declared.Point.{Point}
use Rattle.r9_geom.specs.declared.Rect.{Rect}
use Rattle.r9_geom.specs.Geometry.{area_of, carried, holds, natural, IsNear, IsOrdered, IsRectNear}
use Rattle.r9_geom.proofs.GeometryLemmas.{near_point}
use Rattle.model_pixel.specs.Channels.{depth}
use Rattle.model_forest.specs.declared.Window.{Window}
use Rattle.model_forest.specs.Stack.{with_windows}
use Rattle.model_forest.specs.View.{is_bare}
use Rattle.model_forest.specs.World.{Image, World, image_at, no_image, parent_of, IsForest, IsLive, IsWindowOf, SameSize}
use Rattle.model_forest.proofs.Changes.{live-standing, with_image-at, with_image-each, with_image-other}
use Rattle.model_forest.proofs.Listed.{All-listed, parent-apart, window_of}
use Rattle.model_forest.proofs.Sound.{times, IsStill, IsWindowOf-still, SameStand, SameStand-itself}
use Rattle.model_kept.specs.Cells.{cell_of, cell_part, hides, hides_on, hides_under}
use Rattle.model_kept.specs.Keeping.{is_top, keeping, outward, own, place_among, with_kept, Place}
use Rattle.model_kept.specs.Restack.{fill_of_top, with_list, IsRestacked}
use Rattle.model_kept.proofs.Hiding.{place-inside}
use Rattle.model_kept.proofs.Once.{places-forest}
use Rattle.model_kept.proofs.Relisting.{parent_of-same}
use Rattle.model_kept.proofs.Worlds.{image_at-slot, restacked-world, standing-forest, with_list-same}
use Rattle.r9_locate.specs.locate.Forms.{bits_in, form_of, forms_of, Form, HasBits}
use Rattle.r9_cells.specs.Fitting.{hides_cell, hides_of, shows_of, AreOne}
use Rattle.r9_pixels.specs.Places.{in_hidden, in_shown, HasCells, StandsOn}
use Rattle.r9_pixels.proofs.Standing.{none_of}
use Rattle.r9_restack.specs.Changing.{HasPlacesBut}
use Rattle.r9_restack.specs.Moving.{HasPlaces}
use Rattle.r9_relist.specs.relist.Relisting.{HasOtherCells, HasPlacesBefore, IsAsBefore}
use Rattle.r9_relist.proofs.relist.Covering.{hides_unshown, in_hidden_is, in_shown_is}
use Rattle.r9_relist.proofs.relist.Front.{are_one}
use Rattle.r9_relist.proofs.relist.Near.{nearby}

and_false : (b : Bool) → (b && false) ≡ false
and_false true = refl
and_false false = refl

or_false : (b : Bool) → (b || false) ≡ b
or_false true = refl
or_false false = refl

some_is : (a b : ℕ) → Some a ≡ Some b → a ≡ b
some_is a b e = cc

sized_ordered : (a b : Rect) → SameSize a b → IsOrdered b → IsOrdered a
sized_ordered a b size is =
    let width = size.width in
    let height = size.height in
    record { across = omega (arith, ints, width, is.across); down = omega (arith, ints, height, is.down) }

-- ---- the world with the list, beside the one before

abbrev pub listed_image : World → ℕ → List Window → Image
listed_image world p ws = record (image_at world p) { windows = ws }

pub list_at : (world : World) (p : ℕ) (ws : List Window) → image_at (with_list world p ws) p ≡ listed_image world p ws
list_at world p ws = ap (λ o. unwrap_or o no_image) (with_image-at world p (Some (listed_image world p ws)))

pub list_other : (world : World) (p n : ℕ) (ws : List Window) → n ≢ p → image_at (with_list world p ws) n ≡ image_at world n
list_other world p n ws apart = ap (λ o. unwrap_or o no_image) (with_image-other world p n (Some (listed_image world p ws)) apart)

pub list_live : (world : World) (p n : ℕ) (ws : List Window) → IsLive world p → is_some (with_list world p ws n) ≡ is_some (world n)
list_live world p n ws live = (with_list-same world p ws live).live n

pub list_parent : (world : World) (p n : ℕ) (ws : List Window) → IsLive world p → parent_of (with_list world p ws) n ≡ parent_of world n
list_parent world p n ws live = parent_of-same world (with_list world p ws) p (with_list-same world p ws live) n

pub list_rect : (world : World) (p n : ℕ) (ws : List Window) → IsLive world p → (image_at (with_list world p ws) n).r ≡ (image_at world n).r
list_rect world p n ws live = (with_list-same world p ws live).r n

list_still : (world : World) (p : ℕ) (ws : List Window) → IsLive world p → IsStill (with_list world p ws) world
list_still world p ws live = record {
  live = λ n. sym (list_live world p n ws live);
  same =
      with_image-each world p (Some (listed_image world p ws)) (λ n slot. SameStand (image_at world n) (unwrap_or slot no_image))
      (record { standing = refl; depth = refl; chan = refl; size = record { width = refl; height = refl } })
      (λ n other. SameStand-itself (image_at world n));
}

-- how many bits the pixels of an image have
pub bits_at : (world : World) (n : ℕ) → IsLive world n → bits_in (forms_of world) n ≡ depth (image_at world n).chan
bits_at world n some = at (world n) some
  where
    at : (o : Option Image) → is_some o ≡ true → option_map_or (λ (form : Form). depth form.chan) (option_map form_of o) 0 ≡ depth (unwrap_or o no_image).chan
    at None e = absurd (true≢false (sym e))
    at (Some image) e = refl

-- the forms that images are to have are the same
pub relist_forms : (world : World) (p : ℕ) (ws : List Window) → IsLive world p → forms_of (with_list world p ws) ≡ forms_of world
relist_forms world p ws live = λ j n. at n j
  where
    own_form : (o : Option Image) → world p ≡ o → Some (form_of (listed_image world p ws)) ≡ option_map form_of (world p)
    own_form None e = absurd (true≢false (sym live ∙ ap is_some e))
    own_form (Some image) e = ap (λ (im : Image). Some (form_of im)) (image_at-slot world p image e) ∙ sym (ap (option_map form_of) e)

    at : (n : ℕ) → forms_of (with_list world p ws) n ≡ forms_of world n
    at = with_image-each world p (Some (listed_image world p ws)) (λ n slot. option_map form_of slot ≡ option_map form_of (world n)) (own_form (world p) refl) (λ n other. refl)

-- in a world of images the windows have as many bits as what they stand on
pub forest_bits : (world : World) → IsForest world → HasBits world (forms_of world)
forest_bits world ok i q alive stands =
    let found = window_of world ok i q stands in
    bits_at world i alive ∙ ap depth (ap (λ (n : ℕ). (image_at world n).chan) (sym found.1) ∙ found.2.chan) ∙ sym (bits_at world q (ok.parents i q alive stands))

-- ---- what is known of the windows of the list

module _ (world : World) (p : ℕ) (ws : List Window) (live : IsLive world p) (ok : IsForest (with_list world p ws)) where
  abbrev new : World
  new = with_list world p ws

  live_then : IsLive new p
  live_then = list_live world p p ws live ∙ live

  pub relist_stand : All (IsWindowOf world p) ws
  relist_stand =
      All-weaker (IsWindowOf new p) (IsWindowOf world p)
      (λ v. IsWindowOf-still new world p v (list_still world p ws live) (sym (ap (λ (im : Image). im.r.min) (list_at world p ws)))) ws
      (subst (λ (im : Image). All (IsWindowOf new p) im.windows) (list_at world p ws) (ok.windows p live_then))

  pub relist_one : All (λ v. place_among ws v.image ≡ v.place) ws
  relist_one =
      subst (λ (im : Image). All (λ v. place_among im.windows v.image ≡ v.place) im.windows) (list_at world p ws) (places-forest new ok p live_then)

  -- each image has one window in it
  pub relist_ones : AreOne ws
  relist_ones = are_one ws (λ n. subst (λ (im : Image). times im.windows n ≤ 1) (list_at world p ws) (ok.once p n live_then))

  pub relist_near : All (λ v. IsRectNear v.place) ws
  relist_near = subst (λ (im : Image). All (λ v. IsRectNear v.place) im.windows) (list_at world p ws) (nearby new ok p live_then).1

  pub relist_corners : All (λ v. IsNear v.place.min) ws
  relist_corners = λ k d below. (relist_near k d below).min

  pub relist_on : All (StandsOn world p) ws
  relist_on = λ k d below. record { stands = (relist_stand k d below).stands; near = relist_near k d below; size = (relist_stand k d below).size }

  stands_then : (n : ℕ) → parent_of world n ≡ Some p → parent_of new n ≡ Some p
  stands_then n stands = list_parent world p n ws live ∙ stands

  pub relist_listed : (n : ℕ) → parent_of world n ≡ Some p → list_any (λ v. v.image == n) ws ≡ true
  relist_listed n stands =
      ap (λ (im : Image). list_any (λ (v : Window). v.image == n) im.windows) (sym (list_at world p ws))
      ∙ ok.listed n p (live-standing new n p (stands_then n stands)) (stands_then n stands)

  pub relist_apart : (n : ℕ) → parent_of world n ≡ Some p → n ≢ p
  relist_apart n stands = parent-apart new ok n p (stands_then n stands)

  pub relist_placed : (n : ℕ) (y : Point) → parent_of world n ≡ Some p → holds (image_at world n).r y ≡ true → holds (place_among ws n) (carried y (image_at world n).r.min (place_among ws n).min) ≡ true
  relist_placed n y stands inside =
      let at_p = list_at world p ws in
      let rect = list_rect world p n ws live in
      sym (λ j. holds (place_among (at_p j).windows n) (carried y (rect j).min (place_among (at_p j).windows n).min))
      ∙ place-inside new ok (places-forest new ok) p n y (stands_then n stands) (ap (λ r. holds r y) rect ∙ inside)

  -- a point that the list does not show lies in a cell that it hides
  pub relist_hidden : (n : ℕ) (x : Point) → parent_of world n ≡ Some p → holds (image_at world n).r x ≡ true → (holds (image_at world p).r (carried x (image_at world n).r.min (place_among ws n).min) && is_top ws n (carried x (image_at world n).r.min (place_among ws n).min)) ≡ false → in_hidden world p ws (own n x) ≡ true
  relist_hidden n x stands inside unshown =
      in_hidden_is world p n ws x (relist_listed n stands) inside
      ∙ hides_unshown world p n ws x stands (relist_apart n stands) (relist_listed n stands) (λ y h. relist_placed n y stands h) inside unshown

  -- its place
  pub relist_rect : (n : ℕ) → parent_of world n ≡ Some p → IsRectNear (place_among ws n)
  relist_rect n stands =
      let found = All-listed (λ v. IsRectNear (place_among ws v.image)) ws n (λ k d below. subst IsRectNear (sym (relist_one k d below)) (relist_near k d below)) (relist_listed n stands) in
      subst (λ m. IsRectNear (place_among ws m)) found.1 found.2

  -- it has as many points as the window
  pub relist_area : (n : ℕ) → parent_of world n ≡ Some p → area_of (place_among ws n) ≡ area_of (image_at world n).r
  relist_area n stands =
      let found = All-listed (λ v. area_of (place_among ws v.image) ≡ area_of (image_at world v.image).r) ws n
      (λ k d below.
      let size = (relist_stand k d below).size in
      ap area_of (relist_one k d below) ∙ (λ j. natural (size.width j) * natural (size.height j)))
      (relist_listed n stands) in
      subst (λ m. area_of (place_among ws m) ≡ area_of (image_at world m).r) found.1 found.2

  pub relist_stands : (n : ℕ) (z : Point) → parent_of world n ≡ Some p → holds (image_at world n).r z ≡ true → IsNear (carried z (image_at world n).r.min (place_among ws n).min)
  relist_stands n z stands inside =
      near_point (2 ^ 40) (place_among ws n) (carried z (image_at world n).r.min (place_among ws n).min) (relist_rect n stands) (relist_placed n z stands inside)

  pub relist_ordered : (n : ℕ) → parent_of world n ≡ Some p → IsOrdered (image_at world n).r
  relist_ordered n stands = subst IsOrdered (list_rect world p n ws live) (ok.images n (live-standing new n p (stands_then n stands))).ordered

  pub relist_placed_ordered : (n : ℕ) → parent_of world n ≡ Some p → IsOrdered (place_among ws n)
  relist_placed_ordered n stands =
      let found = All-listed (λ v. IsOrdered (place_among ws v.image)) ws n
      (λ k d below.
      let window = relist_stand k d below in
      subst IsOrdered (sym (relist_one k d below)) (sized_ordered _ _ window.size (relist_ordered _ window.stands)))
      (relist_listed n stands) in
      subst (λ m. IsOrdered (place_among ws m)) found.1 found.2

  -- the windows have as many bits as what they stand on
  pub relist_bits : HasBits world (forms_of world)
  relist_bits i q alive stands =
      subst (λ (forms : ℕ → Option Form). bits_in forms i ≡ bits_in forms q) (relist_forms world p ws live)
      (forest_bits new ok i q (list_live world p i ws live ∙ alive) (list_parent world p i ws live ∙ stands))

  -- what is not topmost then, at the place that it had
  newly_hidden : (i : ℕ) (x : Point) → place_among ws i ≡ place_among (image_at world p).windows i → parent_of world i ≡ Some p → holds (image_at world i).r x ≡ true → is_top ws i (outward world p i x) ≡ false → in_hidden world p ws (own i x) ≡ true
  newly_hidden i x same stands inside none =
      let r = (image_at world i).r in
      relist_hidden i x stands inside
      ((λ j. holds (image_at world p).r (carried x r.min (same j).min) && is_top ws i (carried x r.min (same j).min))
      ∙ ap (λ b. holds (image_at world p).r (outward world p i x) && b) none
      ∙ and_false (holds (image_at world p).r (outward world p i x)))

  -- there is a place for each hidden pixel of the others, before and then, once the tiles are taken
  pub relist_places : (w : ℕ) (has mid : Place → Bool) → ((i : ℕ) → i ≢ w → place_among ws i ≡ place_among (image_at world p).windows i) → HasPlacesBefore world p w has → ((place : Place) → mid place ≡ (has place || in_hidden world p ws place)) → HasPlacesBut world p ws w mid
  relist_places w has mid places before taken = record {
    surface = λ z h. taken (keeping world p z) ∙ or_left (has (keeping world p z)) (in_hidden world p ws (keeping world p z)) (before.surface z h);
    old_own = λ i x other stands inside none.
        taken (own i x) ∙ or_left (has (own i x)) (in_hidden world p ws (own i x)) (before.hidden i x other stands inside none);
    new_own = λ i x other stands inside none.
        taken (own i x) ∙ or_right (has (own i x)) (in_hidden world p ws (own i x)) (newly_hidden i x (places i other) stands inside none);
  }

  -- the same where all keep their places, and had places for all that was hidden
  pub relist_orders : (has mid : Place → Bool) → ((i : ℕ) → place_among ws i ≡ place_among (image_at world p).windows i) → ((z : Point) → holds (image_at world p).r z ≡ true → has (keeping world p z) ≡ true) → ((i : ℕ) (x : Point) → parent_of world i ≡ Some p → holds (image_at world i).r x ≡ true → is_top (image_at world p).windows i (outward world p i x) ≡ false → has (own i x) ≡ true) → ((place : Place) → mid place ≡ (has place || in_hidden world p ws place)) → HasPlaces world p ws mid
  relist_orders has mid places surface hidden taken = record {
    surface = λ z h. taken (keeping world p z) ∙ or_left (has (keeping world p z)) (in_hidden world p ws (keeping world p z)) (surface z h);
    old_own = λ i x stands inside none. taken (own i x) ∙ or_left (has (own i x)) (in_hidden world p ws (own i x)) (hidden i x stands inside none);
    new_own = λ i x stands inside none. taken (own i x) ∙ or_right (has (own i x)) (in_hidden world p ws (own i x)) (newly_hidden i x (places i) stands inside none);
  }

  -- and where nothing of one of them shows then, and the others keep theirs
  pub relist_concealed : (w : ℕ) (has mid : Place → Bool) → ((i : ℕ) → i ≢ w → place_among ws i ≡ place_among (image_at world p).windows i) → ((z : Point) → holds (image_at world p).r z ≡ true → is_top ws w z ≡ false) → ((z : Point) → holds (image_at world p).r z ≡ true → has (keeping world p z) ≡ true) → ((i : ℕ) (x : Point) → parent_of world i ≡ Some p → holds (image_at world i).r x ≡ true → is_top (image_at world p).windows i (outward world p i x) ≡ false → has (own i x) ≡ true) → ((place : Place) → mid place ≡ (has place || in_hidden world p ws place)) → HasPlaces world p ws mid
  relist_concealed w has mid places gone surface hidden taken = record {
    surface = λ z h. taken (keeping world p z) ∙ or_left (has (keeping world p z)) (in_hidden world p ws (keeping world p z)) (surface z h);
    old_own = λ i x stands inside none. taken (own i x) ∙ or_left (has (own i x)) (in_hidden world p ws (own i x)) (hidden i x stands inside none);
    new_own = λ i x stands inside none.
        taken (own i x) ∙ or_right (has (own i x)) (in_hidden world p ws (own i x))
        (⊎_elim
        (λ (same : i ≡ w). of_w i x same stands inside)
        (λ (other : i ≢ w). newly_hidden i x (places i other) stands inside none)
        (cases_eq i w));
  }
    where
      unseen : (z : Point) → (b : Bool) → holds (image_at world p).r z ≡ b → (b && is_top ws w z) ≡ false
      unseen z false e = refl
      unseen z true e = gone z e

      of_w : (i : ℕ) (x : Point) → i ≡ w → parent_of world i ≡ Some p → holds (image_at world i).r x ≡ true → in_hidden world p ws (own i x) ≡ true
      of_w i x same stands inside =
          let z = carried x (image_at world i).r.min (place_among ws i).min in
          relist_hidden i x stands inside
          (ap (λ m. holds (image_at world p).r z && is_top ws m z) same ∙ unseen z (holds (image_at world p).r z) refl)

  -- and where one of them had places for all its points, and the others keep theirs
  pub relist_disclosed : (w : ℕ) (has mid : Place → Bool) → ((i : ℕ) → i ≢ w → place_among ws i ≡ place_among (image_at world p).windows i) → ((x : Point) → holds (image_at world w).r x ≡ true → has (own w x) ≡ true) → ((z : Point) → holds (image_at world p).r z ≡ true → has (keeping world p z) ≡ true) → ((i : ℕ) (x : Point) → parent_of world i ≡ Some p → holds (image_at world i).r x ≡ true → is_top (image_at world p).windows i (outward world p i x) ≡ false → has (own i x) ≡ true) → ((place : Place) → mid place ≡ (has place || in_hidden world p ws place)) → HasPlaces world p ws mid
  relist_disclosed w has mid places of_w surface hidden taken = record {
    surface = λ z h. taken (keeping world p z) ∙ or_left (has (keeping world p z)) (in_hidden world p ws (keeping world p z)) (surface z h);
    old_own = λ i x stands inside none. taken (own i x) ∙ or_left (has (own i x)) (in_hidden world p ws (own i x)) (hidden i x stands inside none);
    new_own = λ i x stands inside none.
        ⊎_elim
        (λ (same : i ≡ w).
        let F : ℕ → Type 0 = λ n. holds (image_at world n).r x ≡ true → has (own n x) ≡ true in
        taken (own i x) ∙ or_left (has (own i x)) (in_hidden world p ws (own i x)) (subst F (sym same) (of_w x) inside))
        (λ (other : i ≢ w). taken (own i x) ∙ or_right (has (own i x)) (in_hidden world p ws (own i x)) (newly_hidden i x (places i other) stands inside none))
        (cases_eq i w);
  }

  -- those of other images have theirs
  pub relist_others : (has mid : Place → Bool) → HasOtherCells world p has → ((place : Place) → mid place ≡ (has place || in_hidden world p ws place)) → HasOtherCells world p mid
  relist_others has mid others taken n q x other stands inside =
      let r = (image_at world n).r in
      taken (own n x)
      ∙ ap (λ b. has (own n x) || (holds r x && b))
      (none_of world p ws n (hides_of world p ws n (cell_of r x)) (λ w e. (Decides-eqb n w.image).0 (and_parts (n == w.image) _ e).0)
      (λ e. other (some_is q p (sym stands ∙ e))) relist_on)
      ∙ ap (λ b. has (own n x) || b) (and_false (holds r x))
      ∙ or_false (has (own n x))
      ∙ others n q x other stands inside

  -- and the windows have places just in their cells that have a hidden point, once the others' tiles are given back
  pub relist_cells : (mid has : Place → Bool) → HasOtherCells world p mid → ((place : Place) → in_hidden world p ws place ≡ true → mid place ≡ true) → ((place : Place) → has place ≡ (not (in_shown world p ws place) && mid place)) → HasCells new has
  relist_cells mid has others taken given n q x stands inside =
      let was : parent_of world n ≡ Some q = sym (list_parent world p n ws live) ∙ stands in
      let within : holds (image_at world n).r x ≡ true = ap (λ r. holds r x) (sym rect) ∙ inside in
      ⊎_elim
      (λ (same : q ≡ p). of_p (was ∙ ap (λ m. Some m) same) (stands ∙ ap (λ m. Some m) same) within)
      (λ (other : q ≢ p). of_another other was within)
      (cases_eq q p)
    where
      r : Rect
      r = (image_at world n).r

      k : ℕ
      k = cell_of r x

      rect : (image_at new n).r ≡ r
      rect = list_rect world p n ws live

      h : Bool
      h = hides_cell (image_at world p).r ws n r k

      shown_not : (b m : Bool) → (b ≡ true → m ≡ true) → (not (not b) && m) ≡ b
      shown_not true m has_it = has_it refl
      shown_not false m has_it = refl

      -- those of another image are not touched
      of_another : q ≢ p → parent_of world n ≡ Some q → holds r x ≡ true → has (own n x) ≡ hides new n (cell_part (image_at new n).r (cell_of (image_at new n).r x))
      of_another other was within =
          given (own n x)
          ∙ ap (λ b. not (holds r x && b) && mid (own n x))
          (none_of world p ws n (shows_of world p ws n k) (λ w e. (Decides-eqb n w.image).0 (and_parts (n == w.image) _ e).0)
          (λ e. other (some_is q p (sym was ∙ e))) relist_on)
          ∙ ap (λ b. not b && mid (own n x)) (and_false (holds r x))
          ∙ others n q x other was within
          ∙ ap (λ o. option_map_or (λ m. hides_on world m n (cell_part r k)) o false) was
          ∙ sym (λ j. hides_under (at_q j).r (at_q j).windows n (rect j) (cell_part (rect j) (cell_of (rect j) x)))
          ∙ sym (ap (λ o. option_map_or (λ m. hides_on new m n (cell_part (image_at new n).r (cell_of (image_at new n).r x))) o false) stands)
        where
          at_q : image_at new q ≡ image_at world q
          at_q = list_other world p q ws other

      of_p : parent_of world n ≡ Some p → parent_of new n ≡ Some p → holds r x ≡ true → has (own n x) ≡ hides new n (cell_part (image_at new n).r (cell_of (image_at new n).r x))
      of_p was now within =
          let hidden : in_hidden world p ws (own n x) ≡ h = in_hidden_is world p n ws x (relist_listed n was) within in
          let at_p = list_at world p ws in
          given (own n x)
          ∙ ap (λ b. not b && mid (own n x)) (in_shown_is world p n ws x (relist_listed n was) within)
          ∙ shown_not h (mid (own n x)) (λ e. taken (own n x) (hidden ∙ e))
          ∙ sym (λ j. hides_under (at_p j).r (at_p j).windows n (rect j) (cell_part (rect j) (cell_of (rect j) x)))
          ∙ sym (ap (λ o. option_map_or (λ m. hides_on new m n (cell_part (image_at new n).r (cell_of (image_at new n).r x))) o false) now)

-- ---- the pixels

-- another fill, that agrees with it where points become bare
pub refilled : (old new : World) (p : ℕ) (before after : Place → ℕ) (fill other : Point → ℕ) → ((q : Point) → holds (image_at new p).r q ≡ true → is_bare (image_at old p).windows q ≡ false → is_bare (image_at new p).windows q ≡ true → fill q ≡ other q) → IsRestacked old new p before after fill → IsRestacked old new p before after other
refilled old new p before after fill other agree is = record {
  covered = is.covered;
  bare = λ q inside bare. is.bare q inside bare ∙ by_bare q inside bare (is_bare (image_at old p).windows q) refl;
  hidden = is.hidden;
  others = is.others;
}
  where
    by_bare : (q : Point) → holds (image_at new p).r q ≡ true → is_bare (image_at new p).windows q ≡ true → (b : Bool) → is_bare (image_at old p).windows q ≡ b → (if is_bare (image_at old p).windows q then before (keeping old p q) else fill q) ≡ (if is_bare (image_at old p).windows q then before (keeping old p q) else other q)
    by_bare q inside bare true e =
        ap (λ b. if b then before (keeping old p q) else fill q) e ∙ sym (ap (λ b. if b then before (keeping old p q) else other q) e)
    by_bare q inside bare false e = ap (λ n. if is_bare (image_at old p).windows q then before (keeping old p q) else n) (agree q inside e bare)

pub relisted_world : (world : World) (p w : ℕ) (ws : List Window) (given fill : Point → ℕ) (kept before after : Place → ℕ) → IsLive world p → IsForest (with_list world p ws) → IsAsBefore world p w ws given fill kept before → IsRestacked world (with_list world p ws) p before after fill → with_kept (with_list world p ws) after ≡ with_windows (with_kept world before) p ws
relisted_world world p w ws given fill kept before after live ok was is =
    restacked-world world p ws before after live (standing-forest (with_list world p ws) ok) (places-forest (with_list world p ws) ok)
    (refilled world (with_list world p ws) p before after fill (fill_of_top (with_kept world before) p)
    (λ q inside covered bare.
    was.fills q (ap (λ (r : Rect). holds r q) (sym (list_rect world p p ws live)) ∙ inside) covered (ap (λ (im : Image). is_bare im.windows q) (sym (list_at world p ws)) ∙ bare))
    is)
