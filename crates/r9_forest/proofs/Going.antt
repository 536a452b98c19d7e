-- An image that may go, and what fills where it stood.
use Rattle.std.proofs.Common.{◌≡◌, ◌∙◌, ℕ, ◌*◌, ◌<◌, ◌^◌, Bool, true, false, List, [], ◌∷◌, ◌++◌, Option, Some, None, get_or, refl, sym, subst, ap, arith}
use Rattle.std.specs.Prelude.{◌&&◌, ◌||◌, is_none, option_map, if◌then◌else◌}
use Rattle.std.specs.Option.{option_map_or}
use Rattle.std.proofs.lemmas.Bool.{true≢false}
use Rattle.std.proofs.lemmas.Int.{ints}
use Rattle.std.proofs.lemmas.Nat.{pow_pos}
use Rattle.r9_geom.specs.declared.Point.{Point}
use Rattle.r9_geom.specs.declared.Rect.{Rect}
use Rattle.r9_geom.specs.Geometry.{area_of, height, holds, width, IsOrdered, IsRectNear}
use Rattle.r9_geom.proofs.GeometryLemmas.{distance_is}
use Rattle.model_pixel.specs.Channels.{depth, expand, is_descriptor, pack}
use Rattle.model_forest.specs.declared.Standing.{Standing}
use Rattle.model_forest.specs.declared.Window.{Window}
use Rattle.model_forest.specs.Draw.{reaches}
use Rattle.model_forest.specs.Stack.{filled, with_windows, without}
use Rattle.model_forest.specs.Steps.{after_release}
use Rattle.model_forest.specs.View.{at, is_bare, top_window}
use Rattle.model_forest.specs.World.{World, fill_of, image_at, parent_of, with_image, CanGo, IsForest, IsLive, SameSize}
use Rattle.model_forest.proofs.Changes.{live-apart, live-standing, with_image-at, with_image-other}
use Rattle.model_forest.proofs.Listed.{All-listed, window_of}
use Rattle.model_forest.proofs.Raws.{converted_below}
use Rattle.model_forest.proofs.Steps.{IsForest-after_release}
use Rattle.model_forest.proofs.Uncovers.{Uncovers, Uncovers-without}
use Rattle.model_forest.proofs.Views.{All-top_window, holds-top_window}
use Rattle.model_kept.specs.Keeping.{place_among, with_kept, HasOnePlaces, Place}
use Rattle.model_kept.specs.Restack.{fill_of_top, with_list}
use Rattle.model_kept.proofs.Once.{places-forest}
use Rattle.r9_locate.specs.declared.locate.lists.Lists.{Lists}
use Rattle.r9_locate.specs.locate.Forms.{forms_of}
use Rattle.r9_locate.specs.locate.Table.{made, shape}
use Rattle.r9_pixels.specs.declared.keeping.KeptPixels.{KeptPixels}
use Rattle.r9_pixels.specs.Kept.{form_at, has_place, kept_at}
use Rattle.r9_pixels.specs.Places.{HasCells}
use Rattle.r9_put.specs.fills.Fills.{fill_at}
use Rattle.r9_relist.specs.relist.Leaving.{others, HasFill, HasPlaceOf, IsGoing}
use Rattle.r9_relist.proofs.relist.Near.{nearby}
use Rattle.r9_forest.specs.Numbered.{IsNumbered}
use Rattle.r9_forest.specs.Sound.{IsSound}
use Rattle.r9_forest.proofs.Backs.{back_numbered, IsBack}
use Rattle.r9_relist.proofs.arrive.Canvases.{bare_canvas}

module _ (bare : World) (kept : Place → ℕ) where
  abbrev shown : World
  shown = with_kept bare kept

  pub reach_is : (fill : ℕ) (p : Point) → reaches (image_at shown fill) p ≡ reaches (image_at bare fill) p
  reach_is fill p =
      let same = bare_canvas bare kept in
      sym (λ j. holds (same.clipr fill j) p && (same.repl fill j || holds (same.r fill j) p))

  pub parent_is : (i : ℕ) → parent_of bare i ≡ parent_of shown i
  parent_is i = ap (option_map (λ (s : Standing). s.parent)) ((bare_canvas bare kept).standing i)

  pub can_shape : (i : ℕ) → CanGo shown i → CanGo bare i
  can_shape i can =
      let same = bare_canvas bare kept in
      record {
        live = same.live i ∙ can.live;
        alone = same.windows i ∙ can.alone;
        fills_none = λ n fills. can.fills_none n (ap (option_map (λ (s : Standing). s.fill)) (sym (same.standing n)) ∙ fills);
      }

  pub going_shape : (i p : ℕ) → IsForest bare → CanGo shown i → parent_of shown i ≡ Some p → IsGoing bare p i
  going_shape i p ok can stands = record { before = ok; stands = parent_is i ∙ stands; can = can_shape i can }

  -- pixels that fill it are what becomes bare is to get, where it goes or moves
  pub fill_left : (i p : ℕ) (area : Rect) (fills : Point → ℕ) (after : List Window) → Uncovers i (image_at bare p).windows after → HasOnePlaces bare → IsLive bare p → HasPlaceOf bare p i area → ((z : Point) → holds area z ≡ true → fills z ≡ fill_at shown (image_at shown p).chan (fill_of shown i) z) → (q : Point) → holds (image_at bare p).r q ≡ true → is_bare (image_at bare p).windows q ≡ false → is_bare after q ≡ true → fills q ≡ fill_of_top shown p q
  fill_left i p area fills after left places live covers right q inside covered clear = by_top (top_window ws q) refl
    where
      ws : List Window
      ws = (image_at bare p).windows

      by_top : (o : Option Window) → top_window ws q ≡ o → fills q ≡ option_map_or (λ w. filled shown (image_at shown p).chan w q) (top_window (image_at shown p).windows q) 0
      by_top None e = absurd (true≢false (sym (ap is_none e) ∙ covered))
      by_top (Some v) e =
          let is : v.image ≡ i = left.only q v clear e in
          let place : place_among ws v.image ≡ v.place = All-top_window (λ u. place_among ws u.image ≡ u.place) ws q v (places p live) e in
          let there : holds (place_among ws i) q ≡ true = ap (λ n. holds (place_among ws n) q) (sym is) ∙ ap (λ r. holds r q) place ∙ holds-top_window ws q v e in
          right q (covers q inside there)
          ∙ ap (λ n. fill_at shown (image_at shown p).chan (fill_of shown n) q) (sym is)
          ∙ sym (ap (λ l. option_map_or (λ w. filled shown (image_at shown p).chan w q) (top_window l q) 0) (sym ((bare_canvas bare kept).windows p)) ∙ ap (λ o. option_map_or (λ w. filled shown (image_at shown p).chan w q) o 0) e)

  pub fill_right : (i p : ℕ) (area : Rect) (fills : Point → ℕ) → HasOnePlaces bare → IsLive bare p → HasPlaceOf bare p i area → ((z : Point) → holds area z ≡ true → fills z ≡ fill_at shown (image_at shown p).chan (fill_of shown i) z) → HasFill bare p i kept fills
  fill_right i p area fills places live covers right =
      fill_left i p area fills (others bare p i) (Uncovers-without i (image_at bare p).windows) places live covers right

  -- the world after it went
  pub released_from : (i p : ℕ) → parent_of shown i ≡ Some p → with_image (with_windows shown p (others bare p i)) i None ≡ after_release shown i
  unfolding after_release
  released_from i p stands =
      ap (λ l. with_image (with_windows shown p (without i l)) i None) ((bare_canvas bare kept).windows p)
      ∙ sym (ap (λ o. with_image (option_map_or (λ parent. with_windows shown parent (without i (image_at shown parent).windows)) o shown) i None) stands)

  pub released_root : (i : ℕ) → parent_of shown i ≡ None → with_image shown i None ≡ after_release shown i
  unfolding after_release
  released_root i nowhere =
      sym (ap (λ o. with_image (option_map_or (λ parent. with_windows shown parent (without i (image_at shown parent).windows)) o shown) i None) nowhere)

-- ---- the place of a window

-- a place is near, and as large as the window
pub record IsPlaced (place r : Rect) : Type 0 where
  pub near : IsRectNear place
  pub ordered : IsOrdered place
  pub area : area_of place ≡ area_of r

placed : (place r : Rect) → IsRectNear place → SameSize place r → IsOrdered r → IsPlaced place r
placed place r near size ordered =
    let ordered_place : IsOrdered place = record { across = omega (arith, ints, size.width, ordered.across); down = omega (arith, ints, size.height, ordered.down) } in
    let wide = distance_is place.min.x place.max.x ordered_place.across in
    let wide_r = distance_is r.min.x r.max.x ordered.across in
    let high = distance_is place.min.y place.max.y ordered_place.down in
    let high_r = distance_is r.min.y r.max.y ordered.down in
    let width_is : width place ≡ width r = omega (arith, ints, wide, wide_r, size.width) in
    let height_is : height place ≡ height r = omega (arith, ints, high, high_r, size.height) in
    record { near = near; ordered = ordered_place; area = λ j. width_is j * height_is j }

pub window_placed : (world : World) (i p : ℕ) → IsForest world → parent_of world i ≡ Some p → IsPlaced (place_among (image_at world p).windows i) (image_at world i).r
window_placed world i p ok stands =
    let alive = live-standing world i p stands in
    let live = ok.parents i p alive stands in
    let ws = (image_at world p).windows in
    let found = All-listed (λ v. IsPlaced (place_among ws v.image) (image_at world v.image).r) ws i
    (λ k d lt.
    let v = get_or ws k d in
    let is = ok.windows p live k d lt in
    subst (λ (r : Rect). IsPlaced r (image_at world v.image).r) (sym (places-forest world ok p live k d lt))
    (placed v.place (image_at world v.image).r ((nearby world ok p live).1 k d lt) is.size (ok.images v.image is.live).ordered))
    (ok.listed i p alive stands) in
    subst (λ n. IsPlaced (place_among ws n) (image_at world n).r) found.1 found.2

-- its fill is live
pub fill_stands : (world : World) (i : ℕ) (s : Standing) → IsForest world → (image_at world i).standing ≡ Some s → (fill_of world i ≡ s.fill) × IsLive world s.fill
fill_stands world i s ok stands =
    let is : fill_of world i ≡ s.fill = ap (λ (o : Option Standing). option_map_or (λ (t : Standing). t.fill) o 0) stands in
    let found = window_of world ok i s.parent (ap (option_map (λ (t : Standing). t.parent)) stands) in
    (is, subst (λ n. IsLive world n) (ap (fill_of world) found.1 ∙ is) found.2.fill)

-- what fills has no more bits than the channels
pub fill_below : (world : World) (chan fill : ℕ) (p : Point) → IsForest world → IsLive world fill → is_descriptor chan ≡ true → fill_at world chan fill p < 2 ^ depth chan
fill_below world chan fill p ok live lawful = by_test (reaches (image_at world fill) p)
  where
    by_test : (b : Bool) → (if b then pack chan (expand (image_at world fill).chan (at world fill p)) else 0) < 2 ^ depth chan
    by_test true = converted_below (image_at world fill).chan chan (at world fill p) (ok.images fill live).chan lawful
    by_test false = pow_pos (depth chan)

-- ---- all is sound once it is gone

pub back_gone : (world : World) (i p : ℕ) (ws : List Window) → IsLive world i → IsLive world p → IsBack world (with_image (with_list world p ws) i None) i
back_gone world i p ws alive live = record {
  was = alive;
  gone = with_image-at (with_list world p ws) i None;
  none = λ n none.
      with_image-other (with_list world p ws) i n None (λ e. live-apart world n i none alive (sym e))
      ∙ with_image-other world p n (Some (record (image_at world p) { windows = ws })) (λ e. live-apart world n p none live (sym e)) ∙ none;
}

pub back_root : (world : World) (i : ℕ) → IsLive world i → IsBack world (with_image world i None) i
back_root world i alive = record {
  was = alive;
  gone = with_image-at world i None;
  none = λ n none. with_image-other world i n None (λ e. live-apart world n i none alive (sym e)) ∙ none;
}

pub gone_sound : (lists more : Lists) (pixels new : KeptPixels) (spare : List ℕ) (i : ℕ) → IsSound lists pixels spare → CanGo (with_kept (shape lists) (kept_at pixels)) i → made more ≡ made lists → with_kept (shape more) (kept_at new) ≡ after_release (with_kept (shape lists) (kept_at pixels)) i → IsBack (shape lists) (shape more) i → HasCells (shape more) (has_place new) → form_at new ≡ forms_of (shape more) → IsSound more new (spare ++ i ∷ [])
gone_sound lists more pixels new spare i sound can count world back cells forms = record {
  forest = subst IsForest (sym world) (IsForest-after_release (with_kept (shape lists) (kept_at pixels)) i can sound.forest);
  forms = forms;
  cells = cells;
  numbers = subst (λ n. IsNumbered (shape more) n (spare ++ i ∷ [])) (sym count) (back_numbered (shape lists) (shape more) (made lists) i spare back sound.numbers);
}
