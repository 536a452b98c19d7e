-- A window that gets another place in the list of the image on which it stands.
use Rattle.std.proofs.Common.{◌≡◌, ◌∙◌, ℕ, ◌<◌, ◌≤◌, ◌^◌, Bool, true, false, List, Some, get_or, refl, sym, ap, subst, arith}
use Rattle.std.specs.Prelude.{◌&&◌, option_map, if◌then◌else◌}
use Rattle.std.proofs.lemmas.Bool.{and_from, and_parts, false_from_ne_true, false≢true}
use Rattle.r9_geom.specs.declared.Point.{Point}
use Rattle.r9_geom.specs.declared.Rect.{Rect}
use Rattle.r9_geom.specs.Geometry.{area_of, holds, is_empty, meet, IsOrdered}
use Rattle.r9_geom.proofs.GeometryLemmas.{empty_holds, holds-meet}
use Rattle.model_pixel.specs.Channels.{depth, is_descriptor}
use Rattle.model_forest.specs.declared.Standing.{Standing}
use Rattle.model_forest.specs.declared.Window.{Window}
use Rattle.model_forest.specs.Stack.{moved, with_windows}
use Rattle.model_forest.specs.View.{view}
use Rattle.model_forest.specs.World.{World, fill_of, image_at, parent_of, IsForest, IsLive}
use Rattle.model_forest.proofs.Changes.{live-standing}
use Rattle.model_forest.proofs.Sound.{view-below}
use Rattle.model_kept.specs.Keeping.{keeping, place_among, with_kept}
use Rattle.model_kept.specs.Restack.{with_list}
use Rattle.model_kept.proofs.Once.{places-forest}
use Rattle.r9_plane.specs.Pixels.{number_of}
use Rattle.r9_locate.specs.declared.locate.lists.Lists.{Lists}
use Rattle.r9_locate.specs.locate.Forms.{bits_in, forms_of}
use Rattle.r9_locate.specs.locate.Table.{made, shape}
use Rattle.r9_pixels.specs.declared.keeping.KeptPixels.{KeptPixels}
use Rattle.r9_pixels.specs.Kept.{form_at, has_place, kept_at}
use Rattle.r9_pixels.specs.Places.{HasCells}
use Rattle.r9_put.specs.fills.Fills.{fill_at}
use Rattle.r9_relist.specs.relist.Leaving.{HasFill, HasPlaceOf}
use Rattle.r9_relist.specs.relist.Relisting.{meet_from, HasPlacesBefore, IsAsBefore, IsRelisting}
use Rattle.r9_relist.proofs.relist.Meeting.{corner_area, corner_none, corner_of, meet_fewer}
use Rattle.r9_forest.specs.declared.images.Images.{Images}
use Rattle.r9_forest.specs.Given.{left_of}
use Rattle.r9_forest.specs.Groups.{IsMoved}
use Rattle.r9_forest.specs.Images.{numbers, world}
use Rattle.r9_forest.specs.Numbered.{numbers_of}
use Rattle.r9_forest.specs.Replaced.{IsShown}
use Rattle.r9_forest.specs.Room.{HasFillRoom}
use Rattle.r9_forest.specs.Sound.{IsSound}
use Rattle.r9_relist.proofs.arrive.Canvases.{bare_canvas}
use Rattle.r9_forest.proofs.Going.{fill_right, fill_stands, parent_is, window_placed, IsPlaced}
use Rattle.r9_forest.proofs.Moves.{moved_before, moved_places, moved_relisting, pictured_fits}
use Rattle.r9_forest.proofs.Roomy.{fills_put, fills_same}
use Rattle.r9_forest.proofs.Showing.{bits_live, bits_of, bits_sound, shown_kept}
use Rattle.r9_forest.proofs.Sounding.{list_sound, sound_forest, sound_list, sound_windows}

-- ---- the points of two rectangles

both_holds : (a b : Rect) (p : Point) → holds (meet_from a b) p ≡ (holds a p && holds b p)
both_holds a b p = by_empty (is_empty (meet a b)) refl
  where
    by_empty : (e : Bool) → is_empty (meet a b) ≡ e → holds (if e then corner_of a else meet a b) p ≡ (holds a p && holds b p)
    by_empty true is = corner_none a p ∙ sym (empty_holds (meet a b) p is) ∙ holds-meet a b p
    by_empty false is = holds-meet a b p

both_fewer : (a b : Rect) → IsOrdered a → area_of (meet_from a b) ≤ area_of a
both_fewer a b ordered = by_empty (is_empty (meet a b)) refl
  where
    by_empty : (e : Bool) → is_empty (meet a b) ≡ e → area_of (if e then corner_of a else meet a b) ≤ area_of a
    by_empty true is = let none = corner_area a in omega (arith, none)
    by_empty false is = meet_fewer a b ordered is

-- where one has a point the other has none
pub apart_points : (a b : Rect) → is_empty (meet a b) ≡ true → (p : Point) → holds a p ≡ true → holds b p ≡ false
apart_points a b none p here =
    false_from_ne_true (holds b p)
    (λ there. false≢true (sym (empty_holds (meet a b) p none) ∙ holds-meet a b p ∙ and_from (holds a p) (holds b p) here there))

-- ---- where it stands

module _ (lists : Lists) (pixels : KeptPixels) (spare : List ℕ) (i : ℕ) (s : Standing) (sound : IsSound lists pixels spare) (stands : (image_at (with_kept (shape lists) (kept_at pixels)) i).standing ≡ Some s) where
  abbrev bare : World
  bare = shape lists

  abbrev shown : World
  shown = with_kept (shape lists) (kept_at pixels)

  pub stood_forest : IsForest bare
  stood_forest = sound_forest lists (kept_at pixels) sound.forest

  pub stood_parent : parent_of bare i ≡ Some s.parent
  stood_parent = parent_is bare (kept_at pixels) i ∙ ap (option_map (λ (t : Standing). t.parent)) stands

  pub stood_alive : IsLive bare i
  stood_alive = live-standing bare i s.parent stood_parent

  pub stood_below : IsLive bare s.parent
  stood_below = stood_forest.parents i s.parent stood_alive stood_parent

  pub stood_shown : IsLive shown i
  stood_shown = sym ((bare_canvas bare (kept_at pixels)).live i) ∙ stood_alive

  pub stood_placed : IsPlaced (place_among (image_at bare s.parent).windows i) (image_at bare i).r
  stood_placed = window_placed bare i s.parent stood_forest stood_parent

  -- what it leaves is within the image below, has all points where it stood, and is not larger than the window
  pub left_inside : (z : Point) → holds (left_of bare s.parent i) z ≡ true → holds (image_at bare s.parent).r z ≡ true
  left_inside z h =
      let place = place_among (image_at bare s.parent).windows i in
      let r = (image_at bare s.parent).r in
      (and_parts (holds place z) (holds r z) (sym (both_holds place r z) ∙ h)).1

  pub left_covers : HasPlaceOf bare s.parent i (left_of bare s.parent i)
  left_covers z inside there =
      let place = place_among (image_at bare s.parent).windows i in
      let r = (image_at bare s.parent).r in
      both_holds place r z ∙ and_from (holds place z) (holds r z) there inside

  pub left_small : area_of (left_of bare s.parent i) ≤ area_of (image_at bare i).r
  left_small =
      let fewer = both_fewer (place_among (image_at bare s.parent).windows i) (image_at bare s.parent).r stood_placed.ordered in
      let same = stood_placed.area in
      omega (arith, fewer, same)

  -- what fills there is live, and has the channels of the image below
  pub stood_fill : IsLive shown s.fill
  stood_fill = (fill_stands shown i s sound.forest stands).1

  pub stood_lawful : is_descriptor (image_at bare s.parent).chan ≡ true
  stood_lawful = (stood_forest.images s.parent stood_below).chan

  pub stood_bits : bits_in (form_at pixels) s.parent ≡ depth (image_at bare s.parent).chan
  stood_bits = ap (λ forms. bits_in forms s.parent) sound.forms ∙ bits_live bare s.parent stood_below

  -- pixels that fill where it stood
  left_fills : (fills : Point → ℕ) → ((z : Point) → holds (left_of bare s.parent i) z ≡ true → fills z ≡ fill_at shown (image_at bare s.parent).chan s.fill z) → (z : Point) → holds (left_of bare s.parent i) z ≡ true → fills z ≡ fill_at shown (image_at shown s.parent).chan (fill_of shown i) z
  left_fills fills right z h =
      right z h
      ∙ (λ j. fill_at shown ((bare_canvas bare (kept_at pixels)).chan s.parent j) (sym (fill_stands shown i s sound.forest stands).0 j) z)

  pub left_filled : (fills : Point → ℕ) → ((z : Point) → holds (left_of bare s.parent i) z ≡ true → fills z ≡ fill_at shown (image_at bare s.parent).chan s.fill z) → HasFill bare s.parent i (kept_at pixels) fills
  left_filled fills right =
      fill_right bare (kept_at pixels) i s.parent (left_of bare s.parent i) fills (places-forest bare stood_forest) stood_below left_covers (left_fills fills right)

  -- pixels row by row that are what it shows
  module _ (raws : List ℕ) (given : Point → ℕ) (told : (x : Point) → given x ≡ (if holds (image_at bare i).r x then get_or raws (number_of (image_at bare i).r x) 0 else 0)) (shows : IsShown shown i raws) where
    shown_there : (x : Point) → holds (image_at bare i).r x ≡ true → get_or raws (number_of (image_at bare i).r x) 0 ≡ view shown i x
    shown_there x inside =
        let same = (bare_canvas bare (kept_at pixels)).r i in
        ap (λ (r : Rect). get_or raws (number_of r x) 0) same ∙ shows x (ap (λ (r : Rect). holds r x) (sym same) ∙ inside)

    pub given_below : (x : Point) → given x < 2 ^ bits_in (form_at pixels) s.parent
    given_below x =
        let wide : bits_in (form_at pixels) s.parent ≡ depth (image_at shown i).chan = sym (bits_sound lists pixels spare sound i s.parent stood_alive stood_parent) ∙ bits_of lists pixels spare i sound stood_shown in
        subst (λ (n : ℕ). given x < 2 ^ n) (sym wide)
        (pictured_fits given (view shown i) (image_at bare i).r raws told shown_there (depth (image_at shown i).chan) (λ z. view-below shown sound.forest i z stood_shown) x)

    pub given_shown : (x : Point) → holds (image_at bare i).r x ≡ true → given x ≡ kept_at pixels (keeping bare i x)
    given_shown x inside =
        told x ∙ ap (λ b. if b then get_or raws (number_of (image_at bare i).r x) 0 else 0) inside ∙ shown_there x inside
        ∙ shown_kept bare (kept_at pixels) i x sound.forest stood_shown (ap (λ (r : Rect). holds r x) (sym ((bare_canvas bare (kept_at pixels)).r i)) ∙ inside)

  -- ---- another list, in which just it moved

  module _ (list : List Window) (moves : IsMoved shown s.parent i list) (ok : IsForest (with_windows shown s.parent list)) where
    moves_lists : IsMoved bare s.parent i list
    moves_lists = (moves.0, moves.1 ∙ ap (moved i moves.0) (sym (sound_windows lists (kept_at pixels) s.parent)))

    moves_forest : IsForest (with_list bare s.parent list)
    moves_forest = sound_list lists (kept_at pixels) s.parent list ok

    pub moves_change : IsRelisting bare s.parent i list
    moves_change = moved_relisting bare s.parent i list stood_below stood_parent moves_lists moves_forest

    pub moves_places : HasPlacesBefore bare s.parent i (has_place pixels)
    moves_places = moved_places pixels bare s.parent i stood_forest sound.forms sound.cells stood_below

    pub moves_before : (given fills : Point → ℕ) → ((x : Point) → holds (image_at bare i).r x ≡ true → given x ≡ kept_at pixels (keeping bare i x)) → ((z : Point) → holds (left_of bare s.parent i) z ≡ true → fills z ≡ fill_at shown (image_at bare s.parent).chan s.fill z) → IsAsBefore bare s.parent i list given fills (kept_at pixels) (kept_at pixels)
    moves_before given fills was right =
        moved_before bare (kept_at pixels) s.parent i list (left_of bare s.parent i) given fills stood_forest stood_below moves_lists left_covers was (left_fills fills right)

    -- all is sound then
    pub moves_sound : (more : Lists) (new : KeptPixels) → shape more ≡ with_list bare s.parent list → made more ≡ made lists → with_kept (shape more) (kept_at new) ≡ with_windows shown s.parent list → HasCells (shape more) (has_place new) → form_at new ≡ forms_of (shape more) → IsSound more new spare
    moves_sound more new is count world cells forms =
        list_sound lists more pixels new spare s.parent list sound stood_below is count (subst IsForest (sym world) ok) cells forms

    pub moves_fills : (more : Lists) (n : ℕ) → shape more ≡ with_list bare s.parent list → HasFillRoom bare n → HasFillRoom (shape more) n
    moves_fills more n is room =
        fills_same (with_list bare s.parent list) (shape more) n is
        (fills_put bare n s.parent (Some (record (image_at bare s.parent) { windows = list })) (room s.parent) room)

-- ---- where lists and pixels are as they were

pub still_world : (old new : Images) → new.lists ≡ old.lists → new.pixels ≡ old.pixels → world new ≡ world old
unfolding world
still_world old new lists pixels = λ j. with_kept (shape (lists j)) (kept_at (pixels j))

pub still_numbers : (old new : Images) → new.lists ≡ old.lists → new.spare ≡ old.spare → numbers new ≡ numbers old
unfolding numbers
still_numbers old new lists spare = λ j. numbers_of (made (lists j)) (spare j).items
