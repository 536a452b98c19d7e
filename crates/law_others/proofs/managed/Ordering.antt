-- A draw device is whole still after orders of the window manager.
use Rattle.std.proofs.Common.{◌≡◌, ◌&&◌, ℕ, Bool, true, false, List, [], ◌∷◌, Option, Some, None, Ok, Err, refl, sym, ap, subst, ◌∙◌}
use Rattle.std.specs.Prelude.{◌==◌, is_some, not, option_map, unwrap_or, if◌then◌else◌}
use Rattle.std.specs.Option.{option_map_or}
use Rattle.std.specs.Result.{result_unwrap_or}
use Rattle.r9_geom.specs.declared.Point.{Point}
use Rattle.r9_geom.specs.declared.Rect.{Rect}
use Rattle.r9_geom.specs.Geometry.{at_min}
use Rattle.model_text.specs.text.Outcome.{Outcome}
use Rattle.model_forest.specs.declared.Standing.{Standing as Stood}
use Rattle.model_forest.specs.World.{World as Images, IsLive, parent_of}
use Rattle.model_pixel.specs.Channels.{colour_of, pack}
use Rattle.model_forest.specs.Draw.{after_fill}
use Rattle.model_forest.specs.Stack.{after_lower, after_raise, after_window}
use Rattle.model_forest.specs.Steps.{outside}
use Rattle.model_draw_parts.specs.declared.images.ImageId.{ImageId}
use Rattle.model_draw_parts.specs.declared.images.ScreenId.{ScreenId}
use Rattle.model_draw_parts.specs.declared.images.Thing.TheVariants.{Image}
use Rattle.model_draw_parts.specs.images.Book.{Book, add_id, fill_of, image_id, image_of, is_image_id_taken, new_screen, screen_id, screen_numbered, tie}
use Rattle.model_draw_parts.specs.images.Release.{Freed, free_id, free_screen, is_used, nothing_freed}
use Rattle.model_draw.specs.draw.World.{World, after_freed, at_number, next_image, with_book, with_images}
use Rattle.model_draw.specs.draw.Making.{is_window, with_made}
use Rattle.model_draw.specs.draw.Orders.{bordered, drop_window, has_rio, has_window, host_rio, image_freed, image_shown, inside_border, make_window, manager, new_white, place_window, rio_screen, screen_freed, white, with_window_id, with_window_name}
use Rattle.law_shown.specs.shown.Showing.{IsOrderly}
use Rattle.law_shown.proofs.shown.Following.{screen_used, shown_used}
use Rattle.law_shown.proofs.shown.Tests.{split, turned}
use Rattle.law_shown.proofs.shown.Numbers.{gone-book}
use Rattle.law_shown.proofs.lasting.Adding.{screened_follows}
use Rattle.law_shown.proofs.lasting.Freeing.{free_screen-screen_ids}
use Rattle.law_shown.proofs.lasting.Ordering.{free_screens, free_taken, image_still, screen_closed, screen_unknown}
use Rattle.law_likeness.specs.making.Standing.{IsWhole, standing_on}
use Rattle.law_likeness.proofs.making.Fresh.{fresh_next}
use Rattle.law_likeness.proofs.making.Making.{entered}
use Rattle.law_likeness.proofs.making.Standing.{ground_used, parent_lives}
use Rattle.law_likeness.proofs.whole.Resting.{AllRest, FirstStands, GroundLives, canvas_rests, fill_rests, images_whole, lower_rests, origin_rests, raise_rests, rest_itself}
use Rattle.law_likeness.proofs.whole.Joining.{Joins, joins_then, window_joins}
use Rattle.law_likeness.proofs.whole.Adding.{joined_whole}
use Rattle.law_likeness.proofs.whole.Screening.{new_screen_whole}
use Rattle.law_likeness.proofs.whole.Freeing.{free_id_whole, free_screen_whole}
use Rattle.law_likeness.proofs.whole.Messages.{ground_apart, ground_lives, stood_lives, tie_whole}

-- ---- what the manager looks up

pub shown_lives : (w : World) (window : ℕ) → IsWhole w → is_some (image_id w.book manager window) ≡ true → IsLive w.images (image_shown w window)
shown_lives w window whole some = by (image_id w.book manager window) refl some
  where
    by : (o : Option ImageId) → image_id w.book manager window ≡ o → is_some o ≡ true → IsLive w.images (option_map_or (λ e. e.image) o 0)
    by None found some = absurd cc
    by (Some e) found some = whole.standing.live e.image (shown_used w.book manager window e found)

pub rio_there : (w : World) (host : ℕ) → IsWhole w → has_rio w host ≡ true → is_some (screen_numbered w.book (rio_screen w host)) ≡ true
rio_there w host whole some = by (screen_id w.book manager host) refl some
  where
    by : (o : Option ScreenId) → screen_id w.book manager host ≡ o → is_some o ≡ true → is_some (screen_numbered w.book (option_map_or (λ e. e.screen) o 0)) ≡ true
    by None found some = absurd cc
    by (Some e) found some = whole.standing.screens e.screen (screen_used w.book manager host e found)

-- what a window that is there says
pub record IsThere (w : World) (window : ℕ) : Type 0 where
  pub counted : (window == 0) ≡ false
  pub known : is_some (image_id w.book manager window) ≡ true
  pub stands : is_window w (image_shown w window) ≡ true

pub window_there : (w : World) (window : ℕ) → has_window w window ≡ true → IsThere w window
window_there w window has =
    let outer = split (not (window == 0) && is_some (image_id w.book manager window)) (is_window w (image_shown w window)) has in
    let inner = split (not (window == 0)) (is_some (image_id w.book manager window)) outer.0 in
    record { counted = fails (window == 0) inner.0; known = inner.1; stands = outer.1 }
  where
    fails : (b : Bool) → not b ≡ true → b ≡ false
    fails true passes = absurd cc
    fails false passes = refl

-- ---- windows that move

pub place_whole : (w : World) (window : ℕ) (at : Point) → IsWhole w → has_window w window ≡ true → IsWhole (place_window w window at)
unfolding place_window
place_whole w window at whole has =
    let i = image_shown w window in
    let live = shown_lives w window whole (window_there w window has).known in
    images_whole w _ (origin_rests w.images i (at_number w i).r.min at live (λ p stands. parent_lives w whole.standing i p live stands)) whole

first_stands : (w : World) (window : ℕ) → IsWhole w → has_window w window ≡ true → FirstStands w.images (image_shown w window ∷ [])
first_stands w window whole has i rest is =
    let there = window_there w window has in
    let same : image_shown w window ≡ i = cc in
    subst (λ (n : ℕ). IsLive w.images (unwrap_or (parent_of w.images n) 0)) same (stood_lives w whole (image_shown w window) (shown_lives w window whole there.known) there.stands)

pub raise_whole : (w : World) (window : ℕ) → IsWhole w → has_window w window ≡ true → IsWhole (with_images w (after_raise w.images (image_shown w window ∷ [])))
raise_whole w window whole has = images_whole w _ (raise_rests w.images (image_shown w window ∷ []) (first_stands w window whole has)) whole

pub lower_whole : (w : World) (window : ℕ) → IsWhole w → has_window w window ≡ true → IsWhole (with_images w (after_lower w.images (image_shown w window ∷ [])))
lower_whole w window whole has = images_whole w _ (lower_rests w.images (image_shown w window ∷ []) (first_stands w window whole has)) whole

-- ---- a window comes

pub bordered_rests : (images : Images) (i : ℕ) → IsLive images i → AllRest images (bordered images i)
unfolding bordered
bordered_rests images i live = canvas_rests images i _ _ live

module _ (w : World) (whole : IsWhole w) (orderly : IsOrderly w) (s : ℕ) (there : is_some (screen_numbered w.book s) ≡ true) where
  abbrev ground : Stood
  ground = standing_on w.book s

  on_joins : (place : Rect) (pixel : ℕ) → Joins w.images (after_window w.images (next_image w) (image_of w.book s) (fill_of w.book s) place pixel) (next_image w) (Some ground)
  on_joins place pixel =
      let live = ground_lives w whole s there in window_joins w.images (next_image w) (image_of w.book s) (fill_of w.book s) place pixel live (ground_apart w whole orderly (image_of w.book s) live)

  -- the new image stands on one that lives
  pub joined_ground : (new : Images) → Joins w.images new (next_image w) (Some ground) → GroundLives new (next_image w)
  joined_ground new joins p stands =
      let on : ◌≡◌ {A = Option ℕ} (Some (image_of w.book s)) (Some p) = sym (ap (option_map (λ (x : Stood). x.parent)) joins.standing) ∙ stands in
      let same : image_of w.book s ≡ p = cc in
      let live = ground_lives w whole s there in
      subst (λ (n : ℕ). IsLive new n) same (joins.others (image_of w.book s) (ground_apart w whole orderly (image_of w.book s) live) ∙ live)

  pub white_joins : (r : Rect) (hide : Bool) → Joins w.images (new_white w s r hide) (next_image w) (Some ground)
  white_joins r false = on_joins r (white (at_number w (image_of w.book s)).chan)
  white_joins r true =
      let pixel = white (at_number w (image_of w.book s)).chan in
      let on : Images = after_window w.images (next_image w) (image_of w.book s) (fill_of w.book s) (at_min r outside) pixel in
      let joins = on_joins (at_min r outside) pixel in
      joins_then w.images on _ (next_image w) (Some ground) joins (origin_rests on (next_image w) r.min outside joins.live (joined_ground on joins))

-- an id of the manager that is free is given
pub id_given : (book : Book) (window i s : ℕ) → is_image_id_taken book manager window ≡ false → with_window_id book window i s ≡ entered book manager window i (Some s)
unfolding add_id
id_given book window i s free = rw free refl

pub named_whole : (w : World) (window : ℕ) (name : List ℕ) → IsWhole w → IsWhole (with_book w w.book) → IsWhole (with_book w (with_window_name w.book window name))
named_whole w window name whole again = by (tie w.book manager window name) refl
  where
    by : (o : Outcome Book) → tie w.book manager window name ≡ o → IsWhole (with_book w (result_unwrap_or o w.book))
    by (Ok next) e = tie_whole w manager window name next whole e
    by (Err n) e = again

pub whole_again : (w : World) → IsWhole w → IsWhole (with_book w w.book)
whole_again w whole = record {
  standing = record {
    live = whole.standing.live;
    screens = whole.standing.screens;
    stands = whole.standing.stands;
    windows = whole.standing.windows;
    placed = whole.standing.placed;
    finds = whole.standing.finds;
  };
  listed = whole.listed;
  used = whole.used;
  screens_used = whole.screens_used;
}

pub make_whole : (w : World) (window host : ℕ) (r : Rect) (name : List ℕ) (hide : Bool) → IsWhole w → IsOrderly w → has_rio w host ≡ true → image_id w.book manager window ≡ None
    → IsWhole (make_window w window host r name hide)
unfolding make_window
make_whole w window host r name hide whole orderly rio none =
    let s = rio_screen w host in
    let i = next_image w in
    let there = rio_there w host whole rio in
    let white_one : Images = new_white w s r hide in
    let joins = white_joins w whole orderly s there r hide in
    let images : Images = bordered white_one i in
    let one = joins_then w.images white_one images i (Some (standing_on w.book s)) joins (bordered_rests white_one i joins.live) in
    let free = free_taken w.book window none in
    let added : World = record w { images = images; numbers = (with_made w images w.book).numbers; book = entered w.book manager window i (Some s) } in
    let two : IsWhole added = joined_whole w whole images i manager window (Some s) (fresh_next w whole orderly) one free (λ t at. subst (λ (n : ℕ). is_some (screen_numbered w.book n) ≡ true) (some_is s t at) there) (with_made w images w.book).numbers in
    subst (λ (b : Book). IsWhole (with_book (with_made w images w.book) (with_window_name b window name))) (sym (id_given w.book window i s free))
    (named_whole added window name two (whole_again added two))
  where
    some_is : (a b : ℕ) → ◌≡◌ {A = Option ℕ} (Some a) (Some b) → a ≡ b
    some_is a b e = cc

-- ---- a window goes

pub screen_freed_whole : (w : World) (host : ℕ) → IsWhole w → IsWhole (after_freed w (screen_freed w.book host))
screen_freed_whole w host whole = by (free_screen w.book manager host) refl
  where
    by : (o : Outcome Freed) → free_screen w.book manager host ≡ o → IsWhole (after_freed w (result_unwrap_or o (nothing_freed w.book)))
    by (Ok freed) e = free_screen_whole w manager host freed whole e
    by (Err n) e = whole_again w whole

pub image_freed_whole : (w : World) (window : ℕ) → IsWhole w → IsWhole (after_freed w (image_freed w.book window))
image_freed_whole w window whole = by (free_id w.book manager window) refl
  where
    by : (o : Outcome Freed) → free_id w.book manager window ≡ o → IsWhole (after_freed w (result_unwrap_or o (nothing_freed w.book)))
    by (Ok freed) e = free_id_whole w manager window freed whole e
    by (Err n) e = whole_again w whole

pub drop_whole : (w : World) (window : ℕ) → IsWhole w → has_window w window ≡ true → IsWhole (drop_window w window)
unfolding drop_window
drop_whole w window whole has =
    let left : World = place_window w window outside in
    let closed : World = after_freed left (screen_freed left.book window) in
    image_freed_whole closed window (screen_freed_whole left window (place_whole w window outside whole has))

-- ---- a rio in a window

filled_rests : (images : Images) (i : ℕ) (r : Rect) (raw : ℕ) (fill : Bool) → IsLive images i → AllRest images (if fill then after_fill images i r raw else images)
filled_rests images i r raw true live = fill_rests images i r raw live
filled_rests images i r raw false live = rest_itself images

-- the screens of other rios have their ids still
screen_kept : (w : World) (window host : ℕ) → (host == window) ≡ false → screen_id (after_freed w (screen_freed w.book window)).book manager host ≡ screen_id w.book manager host
screen_kept w window host other = by (free_screen w.book manager window) refl
  where
    by : (o : Outcome Freed) → free_screen w.book manager window ≡ o → screen_id (after_freed w (result_unwrap_or o (nothing_freed w.book))).book manager host ≡ screen_id w.book manager host
    by (Ok freed) e = ap (λ (b : Book). screen_id b manager host) (gone-book freed.gone (with_book w freed.book)) ∙ free_screen-screen_ids w.book manager window freed e host other
    by (Err n) e = refl

pub orderly_images : (w : World) (images : Images) → IsOrderly w → IsOrderly (with_images w images)
orderly_images w images o = record { ties = o.ties; images = o.images; numbers = o.numbers; screens = o.screens; spare = o.spare }

-- what is drawn first, and what is left once the screen that it had before has gone
module _ (w : World) (window : ℕ) (fill : Bool) (whole : IsWhole w) (orderly : IsOrderly w) (has : has_window w window ≡ true) (rio : has_rio w 0 ≡ true) where
  there : IsThere w window
  there = window_there w window has

  abbrev i : ℕ
  i = image_shown w window

  abbrev grey : ℕ
  grey = pack (at_number w i).chan (colour_of 0x777777ff)

  abbrev drawn : World
  drawn = with_images w (if fill then after_fill w.images i (inside_border (at_number w i).r) grey else w.images)

  drawn_whole : IsWhole drawn
  drawn_whole = images_whole w _ (filled_rests w.images i (inside_border (at_number w i).r) grey fill (shown_lives w window whole there.known)) whole

  abbrev left : World
  left = after_freed drawn (screen_freed w.book window)

  left_whole : IsWhole left
  left_whole = screen_freed_whole drawn window drawn_whole

  left_orderly : IsOrderly left
  left_orderly = (let closed = screen_closed drawn window (orderly_images w _ orderly) in closed.orderly)

  root : has_rio left 0 ≡ true
  root = ap is_some (screen_kept drawn window 0 (turned 0 window ∙ there.counted)) ∙ rio

  abbrev root_fill : ℕ
  root_fill = fill_of left.book (rio_screen left 0)

  shown_used_left : is_used left.book (Image i) ≡ true
  shown_used_left = by (image_id w.book manager window) refl there.known
    where
      by : (o : Option ImageId) → image_id w.book manager window ≡ o → is_some o ≡ true → is_used left.book (Image (option_map_or (λ (e : ImageId). e.image) o 0)) ≡ true
      by None found some = absurd cc
      by (Some e) found some = shown_used left.book manager window e (image_still drawn window ∙ found)

  fill_used_left : is_used left.book (Image root_fill) ≡ true
  fill_used_left = (ground_used left.book (rio_screen left 0) (rio_there left 0 left_whole root)).fill

  making : (made : Book) × (new_screen left.book manager window false i root_fill ≡ Ok made)
  making = free_screens left.book window i root_fill (screen_unknown drawn window)

  pub host_whole : IsWhole (host_rio w window fill)
  unfolding host_rio
  host_whole =
      subst (λ (o : Outcome Book). IsWhole (with_book left (result_unwrap_or o left.book))) (sym making.1)
      (new_screen_whole left manager window false i root_fill making.0 left_whole left_orderly.spare shown_used_left fill_used_left making.1)

  pub host_orderly : IsOrderly (host_rio w window fill)
  unfolding host_rio
  host_orderly =
      subst (λ (o : Outcome Book). IsOrderly (with_book left (result_unwrap_or o left.book))) (sym making.1)
      (let follows = screened_follows (λ n. true) left manager window false i root_fill making.0 left_orderly shown_used_left fill_used_left making.1 (λ host at. absurd cc) in follows.orderly)
