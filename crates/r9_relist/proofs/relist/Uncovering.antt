-- A window that goes: what is known of the lists without it, and where pixels lie then.
use Rattle.std.proofs.Common.{◌≡◌, ◌≢◌, ◌∙◌, ℕ, suc, ◌<◌, ◌≤◌, ◌^◌, All, Bool, true, false, List, Option, Some, None, get_or, inl, refl, sym, ap, subst, ⊎_elim, arith, eq-eqb}
use Rattle.std.specs.Prelude.{◌==◌, ◌&&◌, ◌||◌, is_none, is_some, not, option_map, unwrap_or, if◌then◌else◌}
use Rattle.std.specs.Option.{option_map_or}
use Rattle.std.specs.List.{list_any}
use Rattle.std.proofs.lemmas.Bool.{and_parts, cases_eq, cases_lt, false_from_ne_true, false≢true, ne_eqb, true≢false}
use Rattle.std.proofs.lemmas.Bool.Decides.{Decides-eqb}
use Rattle.std.proofs.lemmas.List.{get_or_past}
use Rattle.std.proofs.lemmas.List.Elements.{All-filter}
use Rattle.r9_geom.specs.declared.Point.{Point}
use Rattle.r9_geom.specs.declared.Rect.{Rect}
use Rattle.r9_geom.specs.Geometry.{carried, holds, is_empty, is_inside, meet, IsNear, IsRectNear}
use Rattle.model_forest.specs.declared.Standing.{Standing}
use Rattle.model_forest.specs.declared.Window.{Window}
use Rattle.model_forest.specs.Stack.{with_windows}
use Rattle.model_forest.specs.View.{top_window}
use Rattle.model_forest.specs.World.{Image, World, image_at, no_image, parent_of, with_image, CanGo, IsForest, IsImage, IsLive, IsWindowOf, SameSize}
use Rattle.model_forest.proofs.Changes.{live-standing, with_image-at, with_image-each, with_image-other}
use Rattle.model_forest.proofs.Gone.{IsForest-gone}
use Rattle.model_forest.proofs.Listed.{length-without, listed-without, listed-without_other, parent-apart, times-without, unlisted}
use Rattle.model_forest.proofs.Sound.{is_listed, IsForestBut, IsForestBut-any, IsForestBut-with_list}
use Rattle.model_kept.specs.Cells.{above, cell_of, cell_part, hides_on, hides_under}
use Rattle.model_kept.specs.Keeping.{is_top, keeping, outward, own, place_among, with_kept, HasOnePlaces, IsStanding, Place}
use Rattle.model_kept.specs.Restack.{fill_of_top, with_list, with_own, IsAlone, IsRestacked}
use Rattle.model_kept.proofs.Coming.{go-world, released, unlisted-top}
use Rattle.model_kept.proofs.Once.{places-forest}
use Rattle.model_kept.proofs.Worlds.{standing-forest, with_list-same}
use Rattle.r9_locate.specs.locate.Forms.{form_of, forms_of, Form}
use Rattle.r9_locate.specs.locate.Lists.{IsNearby}
use Rattle.r9_cells.specs.Fitting.{shows_of, AreOne}
use Rattle.r9_pixels.specs.declared.keeping.KeptPixels.{KeptPixels}
use Rattle.r9_pixels.specs.Kept.{form_at, has_place, kept_at, room_of}
use Rattle.r9_pixels.specs.Owns.{form_in, own_at}
use Rattle.r9_pixels.specs.Places.{in_shown, with_form, with_places, HasCells, StandsOn}
use Rattle.r9_pixels.proofs.Standing.{none_of, window_own}
use Rattle.r9_restack.specs.Changing.{HasPlacesBut, IsChange, StaysTop}
use Rattle.r9_relist.specs.relist.Leaving.{gone, others, HasFill, HasPlaceOf, IsGoing}
use Rattle.r9_relist.proofs.relist.Covering.{in_shown_is}
use Rattle.r9_relist.proofs.relist.Front.{are_one}
use Rattle.r9_relist.proofs.relist.Near.{nearby, nearby_but}
use Rattle.r9_relist.proofs.relist.Relisted.{list_at, list_live, list_other, list_parent, list_rect, listed_image, refilled}
use Rattle.r9_relist.proofs.relist.Surfaces.{placed_alike, surface_has, unshown_has}
use Rattle.r9_relist.proofs.relist.Without.{above-without, place-without, top-past, top-without, without-apart}

some_is : (a b : ℕ) → Some a ≡ Some b → a ≡ b
some_is a b e = cc

and_false : (b : Bool) → (b && false) ≡ false
and_false true = refl
and_false false = refl

-- its forms are those without it
pub gone_forms : (world : World) (i : ℕ) → with_form i None (forms_of world) ≡ forms_of (with_image world i None)
gone_forms world i = λ j n. at (n == i) (world n) j
  where
    at : (b : Bool) (o : Option Image) → (if b then None else option_map form_of o) ≡ option_map form_of (if b then None else o)
    at true o = refl
    at false o = refl

-- what is kept for the places that are left
pub gone_kept : (w : ℕ) (after given last : Place → ℕ) (gives has : Place → Bool) → ((place : Place) → given place ≡ (if gives place then after place else 0)) → last ≡ with_own w (λ _. 0) given → has ≡ with_places w (λ _. false) gives → (place : Place) → has place ≡ true → last place ≡ after place
gone_kept w after given last gives has left is places place there = by_test (place.image == w) refl
  where
    by_test : (b : Bool) → (place.image == w) ≡ b → last place ≡ after place
    by_test true e =
        absurd (false≢true (sym (ap (λ (h : Place → Bool). h place) places ∙ ap (λ b. if b then false else gives place) e) ∙ there))
    by_test false e =
        ap (λ (k : Place → ℕ). k place) is ∙ ap (λ b. if b then 0 else given place) e ∙ left place
        ∙ ap (λ b. if b then after place else 0) (sym (ap (λ (h : Place → Bool). h place) places ∙ ap (λ b. if b then false else gives place) e) ∙ there)

module _ (world : World) (p w : ℕ) (going : IsGoing world p w) where
  abbrev old : List Window
  old = (image_at world p).windows

  abbrev ws : List Window
  ws = others world p w

  abbrev new : World
  new = with_list world p ws

  abbrev final : World
  final = gone world p w

  pub live_below : IsLive world p
  live_below = going.before.parents w p going.can.live going.stands

  one_each : All (λ v. place_among old v.image ≡ v.place) old
  one_each = places-forest world going.before p live_below

  apart_below : w ≢ p
  apart_below = parent-apart world going.before w p going.stands

  -- ---- the lists while it is in none of them

  but : IsForestBut (Some w) new
  but =
      let was : IsImage (image_at world p) = going.before.images p live_below in
      IsForestBut-with_list world (Some w) p (listed_image world p ws) live_below
      (record { standing = refl; depth = refl; chan = refl; size = record { width = refl; height = refl } }) refl
      (record {
        shallow = was.shallow;
        ordered = was.ordered;
        near_min = was.near_min;
        near_max = was.near_max;
        columns = was.columns;
        rows = was.rows;
        clip = was.clip;
        few = length-without w old (2 ^ 32) was.few;
        chan = was.chan;
        raws = was.raws;
        repeats = was.repeats;
      })
      (All-filter (λ v. not (v.image == w)) (IsWindowOf world p) old (going.before.windows p live_below))
      (λ n apart listed. listed-without_other w old n (λ same. apart (ap (λ (k : ℕ). Some k) (sym same))) ∙ listed)
      (λ n. let less = times-without w old n in let most = going.before.once p n live_below in omega (arith, less, most))
      (IsForestBut-any (Some w) world going.before)

  -- nothing stands on it
  none_on : (n : ℕ) → parent_of world n ≢ Some w
  none_on n stands =
      let listed = going.before.listed n w (live-standing world n w stands) stands in
      false≢true (sym (ap (λ l. is_listed l n) going.can.alone) ∙ listed)

  none_then : IsAlone new w
  none_then n stands = none_on n (sym (list_parent world p n ws live_below) ∙ stands)

  pub final_forest : IsForest final
  final_forest =
      IsForest-gone new w
      (ap (λ (image : Image). image.windows) (list_other world p w ws apart_below) ∙ going.can.alone)
      (λ n fills. going.can.fills_none n (sym (ap (option_map (λ s. s.fill)) ((with_list-same world p ws live_below).standing n)) ∙ fills))
      (λ n live.
      ⊎_elim
      (λ (same : n ≡ p). ap (λ (m : ℕ). is_listed (image_at new m).windows w) same ∙ ap (λ (image : Image). is_listed image.windows w) (list_at world p ws) ∙ listed-without w old)
      (λ (other : n ≢ p).
      ap (λ (image : Image). is_listed image.windows w) (list_other world p n ws other)
      ∙ unlisted world going.before n w (sym (list_live world p n ws live_below) ∙ live) (λ stands. other (some_is n p (sym stands ∙ going.stands))))
      (cases_eq n p))
      but

  pub standing_then : IsStanding new
  standing_then = record {
    shallow = λ n live. (but.images n live).shallow;
    windows = but.windows;
    parents = but.parents;
    above = λ n q live stands.
        let same = with_list-same world p ws live_below in
        same.depth n
        ∙ (standing-forest world going.before).above n q (sym (same.live n) ∙ live) (sym (list_parent world p n ws live_below) ∙ stands)
        ∙ ap (λ (n : ℕ). suc n) (sym (same.depth q));
  }

  -- each of the others has its place
  one_then : All (λ v. place_among ws v.image ≡ v.place) ws
  one_then = λ k d lt.
      place-without w _ old (without-apart w old k d lt)
      ∙ All-filter (λ v. not (v.image == w)) (λ v. place_among old v.image ≡ v.place) old one_each k d lt

  pub ones_then : AreOne ws
  ones_then = are_one ws (λ n. let less = times-without w old n in let most = going.before.once p n live_below in omega (arith, less, most))

  pub places_then : HasOnePlaces new
  places_then =
      with_image-each world p (Some (listed_image world p ws)) (λ n slot. is_some slot ≡ true → All (λ v. place_among (unwrap_or slot no_image).windows v.image ≡ v.place) (unwrap_or slot no_image).windows)
      (λ live. one_then) (λ n other live. places-forest world going.before n live)

  pub near_then : IsNearby new
  near_then = nearby_but new (Some w) but

  -- ---- what leaving asks for

  stand : All (IsWindowOf world p) ws
  stand = All-filter (λ v. not (v.image == w)) (IsWindowOf world p) old (going.before.windows p live_below)

  near_each : All (λ v. IsRectNear v.place) ws
  near_each = All-filter (λ v. not (v.image == w)) (λ v. IsRectNear v.place) old (nearby world going.before p live_below).1

  pub near_corners : All (λ v. IsNear v.place.min) ws
  near_corners = λ k d lt. (near_each k d lt).min

  pub on_then : All (StandsOn new p) ws
  on_then = λ k d lt. record {
    stands = list_parent world p _ ws live_below ∙ (stand k d lt).stands;
    near = near_each k d lt;
    size = subst (SameSize (get_or ws k d).place) (sym (list_rect world p (get_or ws k d).image ws live_below)) (stand k d lt).size;
  }

  pub leaving_change : IsChange world p ws w
  leaving_change = record { live = live_below; places = λ i z other h top. inl (place-without w i old other); stand = stand; one = one_then }

  pub leaving_gone : (z : Point) (v : Window) → top_window ws z ≡ Some v → v.image ≢ w
  leaving_gone z v top is =
      false≢true (sym (unlisted-top ws w z (listed-without w old)) ∙ ap (λ o. option_map_or (λ (u : Window). u.image == w) o false) top ∙ eq-eqb v.image w is)

  pub leaving_outside : (area : Rect) → HasPlaceOf world p w area → (z : Point) → holds (image_at world p).r z ≡ true → holds area z ≡ false → StaysTop world p ws w z
  leaving_outside area covers z inside away = record {
    tops = λ i. ap (λ o. option_map_or (λ (v : Window). v.image == i) o false) same;
    apart = λ v top. leaving_gone z v top;
    bare = ap is_none same;
  }
    where
      not_there : (v : Window) → place_among old v.image ≡ v.place → v.image ≡ w → holds v.place z ≡ false
      not_there v place is =
          false_from_ne_true (holds v.place z)
          (λ there. true≢false (sym (covers z inside (ap (λ n. holds (place_among old n) z) (sym is) ∙ ap (λ r. holds r z) place ∙ there)) ∙ away))

      same : top_window ws z ≡ top_window old z
      same = top-past w z old (λ k d lt. not_there _ (one_each k d lt))

  -- what is topmost before, and is another, stays so
  stays_seen : (i : ℕ) (z : Point) → i ≢ w → is_top old i z ≡ true → is_top ws i z ≡ true
  stays_seen i z other seen = by_top (top_window old z) refl
    where
      by_top : (o : Option Window) → top_window old z ≡ o → is_top ws i z ≡ true
      by_top None e = absurd (false≢true (sym (ap (λ o. option_map_or (λ (v : Window). v.image == i) o false) e) ∙ seen))
      by_top (Some v) e =
          let named : (v.image == i) ≡ true = sym (ap (λ o. option_map_or (λ (u : Window). u.image == i) o false) e) ∙ seen in
          let is : v.image ≡ i = (Decides-eqb v.image i).0 named in
          ap (λ o. option_map_or (λ (u : Window). u.image == i) o false) (top-without w z old v e (λ same. other (sym is ∙ same))) ∙ named

  pub leaving_places : (pixels : KeptPixels) → form_at pixels ≡ forms_of world → HasCells world (has_place pixels) → HasPlacesBut world p ws w (has_place pixels)
  leaving_places pixels forms cells = record {
    surface = λ z h. surface_has pixels world going.before forms cells (image_at world p).depth p z refl live_below h;
    old_own = λ i x other stands inside none. unshown_has world (has_place pixels) i p x going.before cells stands inside none;
    new_own = λ i x other stands inside none.
        unshown_has world (has_place pixels) i p x going.before cells stands inside
        (false_from_ne_true (is_top old i (outward world p i x)) (λ seen. true≢false (sym (stays_seen i (outward world p i x) other seen) ∙ none)));
  }

  -- ---- and then

  -- what is hidden without it was hidden with it
  hides_less : (n : ℕ) (below r part : Rect) → n ≢ w → hides_under below ws n r part ≡ true → hides_under below old n r part ≡ true
  hides_less n below r part other h =
      let place : place_among ws n ≡ place_among old n = place-without w n old other in
      let f : Rect → Window → Bool = λ to v. not (is_empty (meet v.place (record { min = carried part.min r.min to.min; max = carried part.max r.min to.min }))) in
      let out : Rect → Bool = λ to. not (is_inside (record { min = carried part.min r.min to.min; max = carried part.max r.min to.min }) below) in
      either (out (place_among old n)) (list_any (f (place_among old n)) (above n ws)) (list_any (f (place_among old n)) (above n old))
      (above-without (f (place_among old n)) n w old other)
      (sym (λ j. out (place j) || list_any (f (place j)) (above n ws)) ∙ h)
    where
      either : (a b c : Bool) → (b ≡ true → c ≡ true) → (a || b) ≡ true → (a || c) ≡ true
      either true b c more e = refl
      either false b c more e = more e

  pub gone_cells : (before given last : Place → Bool) → HasCells world before → ((place : Place) → given place ≡ (not (in_shown new p ws place) && before place)) → last ≡ with_places w (λ _. false) given → HasCells final last
  gone_cells before given last cells gives is n q x stands inside =
      ap (λ (has : Place → Bool). has (own n x)) is
      ∙ ap (λ b. if b then false else given (own n x)) (ne_eqb n w other)
      ∙ gives (own n x)
      ∙ ⊎_elim of_p of_another (cases_eq q p)
      ∙ sym (λ j. hides_under (at_q j).r (at_q j).windows n (rect j) (cell_part (rect j) (cell_of (rect j) x)))
      ∙ sym (ap (λ o. option_map_or (λ m. hides_on final m n (cell_part (image_at final n).r (cell_of (image_at final n).r x))) o false) stands)
    where
      other : n ≢ w
      other here =
          let nowhere : None ≡ Some q = sym (ap (parent_of final) here ∙ ap (λ (o : Option Image). option_map (λ (s : Standing). s.parent) (unwrap_or o no_image).standing) (with_image-at new w None)) ∙ stands in
          absurd (cc)

      at_n : image_at final n ≡ image_at new n
      at_n = ap (λ o. unwrap_or o no_image) (with_image-other new w n None other)

      stood : parent_of new n ≡ Some q
      stood = ap (λ (image : Image). option_map (λ (s : Standing). s.parent) image.standing) (sym at_n) ∙ stands

      was : parent_of world n ≡ Some q
      was = sym (list_parent world p n ws live_below) ∙ stood

      at_q : image_at final q ≡ image_at new q
      at_q = ap (λ o. unwrap_or o no_image) (with_image-other new w q None (λ here. none_on n (was ∙ ap (λ m. Some m) here)))

      r : Rect
      r = (image_at world n).r

      rect_new : (image_at new n).r ≡ r
      rect_new = list_rect world p n ws live_below

      rect : (image_at final n).r ≡ r
      rect = ap (λ (image : Image). image.r) at_n ∙ rect_new

      part : Rect
      part = cell_part r (cell_of r x)

      within : holds r x ≡ true
      within = ap (λ s. holds s x) (sym rect) ∙ inside

      within_new : holds (image_at new n).r x ≡ true
      within_new = ap (λ s. holds s x) rect_new ∙ within

      before_is : before (own n x) ≡ hides_under (image_at world q).r (image_at world q).windows n r part
      before_is = cells n q x was within ∙ ap (λ o. option_map_or (λ m. hides_on world m n part) o false) was

      of_another : q ≢ p → (not (in_shown new p ws (own n x)) && before (own n x)) ≡ hides_under (image_at new q).r (image_at new q).windows n r part
      of_another away =
          ap (λ b. not (holds (image_at new n).r x && b) && before (own n x))
          (none_of new p ws n (shows_of new p ws n (cell_of (image_at new n).r x)) (λ v e. (Decides-eqb n v.image).0 (and_parts (n == v.image) _ e).0)
          (λ e. away (some_is q p (sym stood ∙ e))) on_then)
          ∙ ap (λ b. not b && before (own n x)) (and_false (holds (image_at new n).r x))
          ∙ before_is
          ∙ sym (ap (λ (image : Image). hides_under image.r image.windows n r part) (list_other world p q ws away))

      both : (h g : Bool) → (h ≡ true → g ≡ true) → (not (not h) && g) ≡ h
      both true g more = more refl
      both false g more = refl

      of_p : q ≡ p → (not (in_shown new p ws (own n x)) && before (own n x)) ≡ hides_under (image_at new q).r (image_at new q).windows n r part
      of_p here =
          let listed : is_listed ws n ≡ true = listed-without_other w old n other ∙ going.before.listed n p (live-standing world n q was) (was ∙ ap (λ m. Some m) here) in
          let then_p : hides_under (image_at new q).r (image_at new q).windows n r part ≡ hides_under (image_at world p).r ws n r part =
          ap (λ m. hides_under (image_at new m).r (image_at new m).windows n r part) here ∙ ap (λ (image : Image). hides_under image.r image.windows n r part) (list_at world p ws) in
          let shown : in_shown new p ws (own n x) ≡ not (hides_under (image_at world p).r ws n r part) =
          in_shown_is new p n ws x listed within_new
          ∙ (λ j. not (hides_under (list_at world p ws j).r ws n (rect_new j) (cell_part (rect_new j) (cell_of (rect_new j) x)))) in
          ap (λ b. not b && before (own n x)) shown
          ∙ both (hides_under (image_at world p).r ws n r part) (before (own n x))
          (λ h. before_is ∙ ap (λ m. hides_under (image_at world m).r (image_at world m).windows n r part) here ∙ hides_less n (image_at world p).r r part other h)
          ∙ sym then_p

  -- the world is the one without it
  pub gone_world : (pixels : KeptPixels) (kept after : Place → ℕ) (fill : Point → ℕ) → HasFill world p w kept fill → IsRestacked world new p kept (with_own w (λ x. kept (keeping world w x)) after) fill → form_at pixels ≡ forms_of final → HasCells final (has_place pixels) → ((place : Place) → has_place pixels place ≡ true → kept_at pixels place ≡ after place) → with_kept final (kept_at pixels) ≡ with_image (with_windows (with_kept world kept) p ws) w None
  gone_world pixels kept after fill fills moved forms cells same =
      placed_alike pixels final after final_forest forms cells same
      ∙ released world kept after w p (λ x. kept (keeping world w x)) ws live_below none_then standing_then places_then
      (refilled world new p kept (with_own w (λ x. kept (keeping world w x)) after) fill (fill_of_top (with_kept world kept) p)
      (λ q inside covered bare.
      fills q (ap (λ r. holds r q) (sym (list_rect world p p ws live_below)) ∙ inside) covered (ap (λ (image : Image). is_none (top_window image.windows q)) (sym (list_at world p ws)) ∙ bare))
      moved)

  -- it has room in the table
  pub gone_room : (pixels : KeptPixels) → form_at pixels ≡ forms_of new → w < room_of pixels
  gone_room pixels forms =
      let found = window_own pixels.owns.items new w p forms (list_parent world p w ws live_below ∙ going.stands) in
      let celled = (pixels.tabled.windows w found.0 found.1).image in
      let numbers = pixels.tabled.numbers in
      omega (arith, celled, numbers)

-- ---- an image that stands nowhere

module _ (world : World) (i : ℕ) (ok : IsForest world) (can : CanGo world i) (nowhere : parent_of world i ≡ None) where
  abbrev left : World
  left = with_image world i None

  nothing_on : IsAlone world i
  nothing_on n stands =
      false≢true (sym (ap (λ l. is_listed l n) can.alone) ∙ ok.listed n i (live-standing world n i stands) stands)

  pub left_forest : IsForest left
  left_forest =
      IsForest-gone world i can.alone can.fills_none
      (λ n live. unlisted world ok n i live (λ stands. let none : None ≡ Some n = sym nowhere ∙ stands in cc))
      (IsForestBut-any (Some i) world ok)

  pub left_room : (pixels : KeptPixels) → form_at pixels ≡ forms_of world → i < room_of pixels
  left_room pixels forms =
      ⊎_elim
      (λ (below : i < room_of pixels). below)
      (λ (past : room_of pixels ≤ i).
      let no_own : own_at pixels.owns.items i ≡ None = get_or_past pixels.owns.items i None past in
      let no_form : option_map form_of (world i) ≡ None = sym (ap (λ (f : ℕ → Option Form). f i) forms) ∙ ap (option_map form_in) no_own in
      absurd (none_live (world i) no_form can.live))
      (cases_lt i (room_of pixels))
    where
      none_live : (o : Option Image) → option_map form_of o ≡ None → is_some o ≡ true → ⊥
      none_live None e live = false≢true live
      none_live (Some image) e live = cc

  pub left_cells : (before last : Place → Bool) → HasCells world before → last ≡ with_places i (λ _. false) before → HasCells left last
  left_cells before last cells is n q x stands inside =
      ap (λ (has : Place → Bool). has (own n x)) is
      ∙ ap (λ b. if b then false else before (own n x)) (ne_eqb n i other)
      ∙ cells n q x was (ap (λ (image : Image). holds image.r x) (sym at_n) ∙ inside)
      ∙ ap (λ o. option_map_or (λ m. hides_on world m n (cell_part (image_at world n).r (cell_of (image_at world n).r x))) o false) was
      ∙ sym (λ j. hides_under (at_q j).r (at_q j).windows n (at_n j).r (cell_part (at_n j).r (cell_of (at_n j).r x)))
      ∙ sym (ap (λ o. option_map_or (λ m. hides_on left m n (cell_part (image_at left n).r (cell_of (image_at left n).r x))) o false) stands)
    where
      other : n ≢ i
      other here =
          let none : None ≡ Some q = sym (ap (parent_of left) here ∙ ap (λ (o : Option Image). option_map (λ (s : Standing). s.parent) (unwrap_or o no_image).standing) (with_image-at world i None)) ∙ stands in
          absurd (cc)

      at_n : image_at left n ≡ image_at world n
      at_n = ap (λ o. unwrap_or o no_image) (with_image-other world i n None other)

      was : parent_of world n ≡ Some q
      was = ap (λ (image : Image). option_map (λ (s : Standing). s.parent) image.standing) (sym at_n) ∙ stands

      at_q : image_at left q ≡ image_at world q
      at_q = ap (λ o. unwrap_or o no_image) (with_image-other world i q None (λ here. nothing_on n (was ∙ ap (λ m. Some m) here)))

  pub left_world : (kept last : Place → ℕ) → last ≡ with_own i (λ _. 0) kept → with_kept left last ≡ with_image (with_kept world kept) i None
  left_world kept last is =
      ap (with_kept left) is
      ∙ go-world world i (λ x. kept (own i x)) (with_own i (λ _. 0) kept) nothing_on
      ∙ ap (λ (k : Place → ℕ). with_image (with_kept world k) i None) (λ j place. again place j)
    where
      again : (place : Place) → with_own i (λ x. kept (own i x)) (with_own i (λ _. 0) kept) place ≡ kept place
      again place =
          ⊎_elim
          (λ (here : place.image ≡ i). ap (λ b. if b then kept (own i place.at) else (if b then 0 else kept place)) (eq-eqb place.image i here) ∙ ap (λ n. kept (own n place.at)) (sym here))
          (λ (other : place.image ≢ i). ap (λ b. if b then kept (own i place.at) else (if b then 0 else kept place)) (ne_eqb place.image i other))
          (cases_eq place.image i)
