-- The root rio's screen and the display's depth stay, whatever the window manager orders.
use Rattle.std.proofs.Common.{◌≡◌, ◌≢◌, ◌&&◌, ℕ, Bool, true, false, List, [], ◌∷◌, Option, Some, None, Ok, Err, refl, sym, ap, subst, ◌∙◌}
use Rattle.std.specs.Prelude.{◌==◌, find, slice_index_or, if◌then◌else◌}
use Rattle.std.specs.Result.{result_unwrap_or}
use Rattle.r9_geom.specs.declared.Point.{Point}
use Rattle.r9_geom.specs.declared.Rect.{Rect}
use Rattle.r9_geom.specs.Geometry.{at_min}
use Rattle.r9_event.specs.declared.event.rio.Order.{Order}
use Rattle.r9_event.specs.declared.event.rio.Order.TheVariants.{Make, Place, Replace, Raise, Lower, Drop, Host, Leave, Size}
use Rattle.model_text.specs.text.Outcome.{Outcome, ◌>>=◌, refuse_if}
use Rattle.model_pixel.specs.Channels.{colour_of, pack}
use Rattle.model_forest.specs.World.{World as Images}
use Rattle.model_forest.specs.Draw.{after_fill}
use Rattle.model_forest.specs.Stack.{after_window}
use Rattle.model_forest.specs.Steps.{outside}
use Rattle.model_draw_parts.specs.declared.images.ScreenId.{ScreenId}
use Rattle.model_draw_parts.specs.declared.images.Screen.{Screen as Filled}
use Rattle.model_draw_parts.specs.images.Book.{Book, put_image_id, with_window as book_window, add_id, fill_of, image_of, is_image_id_taken, new_screen, screen_id, tie}
use Rattle.model_draw_parts.specs.images.Release.{Freed, HasScreens, free_id, free_screen, nothing_freed}
use Rattle.model_draw_parts.proofs.images.Freed.{free_id-frees, free_screen-frees}
use Rattle.model_draw_parts.proofs.images.Order.{free_id-rest, free_screen-rest}
use Rattle.model_draw_parts.proofs.images.Ties.{tie-rest}
use Rattle.model_draw.specs.draw.World.{World, after_freed, at_number, next_image, with_book, with_images}
use Rattle.model_draw.specs.draw.Making.{with_made}
use Rattle.model_draw.specs.draw.Orders.{after_order, bordered, corner, drop_window, fits, host_rio, image_freed, image_shown, inside_border, make_window, manager, new_white, next_white, ordered, place_window, replace_window, resize_display, rio_screen, screen_freed, stands_on, white, with_window, with_window_id, with_window_name}
use Rattle.law_shown.specs.shown.Showing.{IsOrderly}
use Rattle.law_shown.proofs.shown.Numbers.{gone-book}
use Rattle.law_shown.proofs.shown.Tests.{split}
use Rattle.law_shown.proofs.lasting.Ordering.{place_follows, screen_closed}
use Rattle.law_likeness.specs.likeness.Likeness.{AreNumbered}
use Rattle.law_others.specs.apart.Apart.{IsApartBook, IsOther, IsOtherScreen, StaysInBook}
use Rattle.law_others.proofs.apart.Books.{book_apart, book_itself}
use Rattle.law_others.proofs.apart.Releasing.{free_id_goes, free_screen_goes}
use Rattle.law_others.specs.others.Others.{IsFurnished, nothing}
use Rattle.law_others.proofs.others.Messages.{leave_stays}
use Rattle.law_likeness.specs.whole.Steady.{IsSteady}
use Rattle.law_others.specs.managed.Ending.{LeavesManager}
use Rattle.law_others.proofs.managed.Ordering.{window_there}
use Rattle.law_devices.proofs.holding.Rooting.{all_outside, nothing_apart}
use Rattle.law_devices.specs.grounded.Grounded.{IsGrounded}
use Rattle.law_devices.proofs.grounded.Depths.{SameDepth, depth_canvas, depth_fill, depth_lower, depth_origin, depth_raise, depth_replace, depth_replace_on, depth_resize, depth_window}
use Rattle.law_devices.proofs.grounded.Messages.{KeepsRoot, Rests, freed_rests, grounded_still, leave_rests, new_screen_rests, next_apart, rests_then, screen_root}

-- the root rio's screen has its id still, and what it was on
record Stands (old new : World) : Type 0 where
  root : KeepsRoot old new
  rests : Rests old new

stands_then : (a b c : World) → Stands a b → Stands b c → Stands a c
stands_then a b c one two = record { root = two.root ∙ one.root; rests = rests_then a b c one.root one.rests two.rests }

images_stand : (w : World) (images : Images) → SameDepth w.images images 0 → Stands w (with_images w images)
images_stand w images depth = record { root = refl; rests = record { screens = λ s at. refl; depth = depth } }

made_stand : (w : World) (images : Images) → SameDepth w.images images 0 → Stands w (with_made w images w.book)
made_stand w images depth = record { root = refl; rests = record { screens = λ s at. refl; depth = depth } }

-- ---- an id and a name

record SameScreens (old new : Book) : Type 0 where
  ids : new.screen_ids ≡ old.screen_ids
  screens : new.screens ≡ old.screens

id_screens : (book : Book) (window i s : ℕ) → SameScreens book (with_window_id book window i s)
unfolding add_id
id_screens book window i s = by (is_image_id_taken book manager window)
  where
    by : (taken : Bool) → SameScreens book
        (result_unwrap_or
        (refuse_if taken 6 >>= λ _.
        Ok (record book { image_ids = put_image_id (record { client = manager; id = window; image = i; tie = None }) book.image_ids; windows = book_window i (Some s) book.windows })) book)
    by true = record { ids = refl; screens = refl }
    by false = record { ids = refl; screens = refl }

name_screens : (book : Book) (window : ℕ) (name : List ℕ) → SameScreens book (with_window_name book window name)
name_screens book window name = by (tie book manager window name) refl
  where
    by : (o : Outcome Book) → tie book manager window name ≡ o → SameScreens book (result_unwrap_or o book)
    by (Ok next) e =
        let is = tie-rest book next manager window name e in
        record { ids = ap (λ (b : Book). b.screen_ids) is; screens = ap (λ (b : Book). b.screens) is }
    by (Err n) e = record { ids = refl; screens = refl }

window_stands : (w : World) (window i s : ℕ) (name : List ℕ) → Stands w (with_window w window i s name)
window_stands w window i s name =
    let one = id_screens w.book window i s in
    let two = name_screens (with_window_id w.book window i s) window name in
    record {
      root = ap (λ (es : List ScreenId). find (λ e. (e.client == manager) && (e.id == 0)) es) (two.ids ∙ one.ids);
      rests = record { screens = λ t at. ap (λ (ss : List (Option Filled)). slice_index_or ss t None) (two.screens ∙ one.screens); depth = refl };
    }

-- ---- what goes

-- the book is kept beside nothing
record Went (old new : World) : Type 0 where
  stands : Stands old new
  book : StaysInBook nothing old.book new.book
  numbers : AreNumbered new.book

other_id : (window : ℕ) → (window == 0) ≡ false → IsOther nothing manager window
other_id window counted = record { ids = λ k x none. absurd none; display = counted }

other_screen : (window : ℕ) → (window == 0) ≡ false → IsOtherScreen nothing manager window
other_screen window counted = record { ids = λ k x none. absurd none; root = counted }

module _ (w : World) (window : ℕ) (counted : (window == 0) ≡ false) (apart : IsApartBook nothing w.book) (numbers : AreNumbered w.book) (screens : HasScreens w.book) where
  after_is : (freed : Freed) → (after_freed w freed).book ≡ freed.book
  after_is freed = gone-book freed.gone (with_book w freed.book)

  went : (freed : Freed) → StaysInBook nothing w.book freed.book → AreNumbered freed.book → Rests w (after_freed w freed) → Went w (after_freed w freed)
  went freed stays count rests = record {
    stands = record { root = ap (λ (b : Book). screen_id b manager 0) (after_is freed) ∙ stays.root; rests = rests };
    book = subst (λ (b : Book). StaysInBook nothing w.book b) (sym (after_is freed)) stays;
    numbers = subst AreNumbered (sym (after_is freed)) count;
  }

  nothing_went : Went w (after_freed w (nothing_freed w.book))
  nothing_went = record { stands = record { root = refl; rests = record { screens = λ s at. refl; depth = refl } }; book = book_itself nothing w.book; numbers = numbers }

  image_went : Went w (after_freed w (image_freed w.book window))
  image_went = by (free_id w.book manager window) refl
    where
      by : (o : Outcome Freed) → free_id w.book manager window ≡ o → Went w (after_freed w (result_unwrap_or o (nothing_freed w.book)))
      by (Ok freed) e =
          let goes = free_id_goes nothing w.book manager window freed counted (other_id window counted) (λ none. none) apart numbers e in
          went freed goes.book goes.numbers (freed_rests w freed goes.book.root (goes.book.display ∙ apart.named) (free_id-frees w.book manager window freed screens e) (free_id-rest w.book manager window freed e))
      by (Err n) e = nothing_went

  screen_went : Went w (after_freed w (screen_freed w.book window))
  screen_went = by (free_screen w.book manager window) refl
    where
      by : (o : Outcome Freed) → free_screen w.book manager window ≡ o → Went w (after_freed w (result_unwrap_or o (nothing_freed w.book)))
      by (Ok freed) e =
          let goes = free_screen_goes nothing w.book manager window freed (other_screen window counted) apart numbers e in
          went freed goes.book goes.numbers (freed_rests w freed goes.book.root (goes.book.display ∙ apart.named) (free_screen-frees w.book manager window freed screens e) (free_screen-rest w.book manager window freed e))
      by (Err n) e = nothing_went

-- ---- each order

module _ (w : World) (steady : IsSteady w) (furnished : IsFurnished w) where
  apart_book : IsApartBook nothing w.book
  apart_book = (nothing_apart w furnished).book

  not_next : 0 ≢ next_image w
  not_next = next_apart w steady.orderly furnished.named

  bordered_depth : (images : Images) (m : ℕ) → SameDepth images (bordered images m) 0
  unfolding bordered
  bordered_depth images m = depth_canvas images m _ _ 0

  white_depth : (s : ℕ) (r : Rect) (hide : Bool) → SameDepth w.images (new_white w s r hide) 0
  white_depth s r false = depth_window w.images (next_image w) (image_of w.book s) (fill_of w.book s) r _ 0 not_next
  white_depth s r true =
      let pixel = white (at_number w (image_of w.book s)).chan in
      let on : Images = after_window w.images (next_image w) (image_of w.book s) (fill_of w.book s) (at_min r outside) pixel in
      depth_origin on (next_image w) r.min outside 0 ∙ depth_window w.images (next_image w) (image_of w.book s) (fill_of w.book s) (at_min r outside) pixel 0 not_next

  make_stands : (window host : ℕ) (r : Rect) (name : List ℕ) (hide : Bool) → Stands w (make_window w window host r name hide)
  unfolding make_window
  make_stands window host r name hide =
      let new : Images = new_white w (rio_screen w host) r hide in
      let taken : World = with_made w (bordered new (next_image w)) w.book in
      stands_then w taken _ (made_stand w (bordered new (next_image w)) (bordered_depth new (next_image w) ∙ white_depth (rio_screen w host) r hide)) (window_stands taken window (next_image w) (rio_screen w host) name)

  next_depth : (old s : ℕ) (r : Rect) (keep hidden : Bool) → SameDepth w.images (next_white w old s r keep hidden) 0
  next_depth old s r keep hidden = by (stands_on w.book old s) refl
    where
      by : (b : Bool) → stands_on w.book old s ≡ b → SameDepth w.images (next_white w old s r keep hidden) 0
      by true is = rw is (depth_replace w.images (next_image w) old r (corner r hidden) (white (at_number w old).chan) keep 0 not_next)
      by false is = rw is (depth_replace_on w.images (next_image w) old (image_of w.book s) (fill_of w.book s) r (corner r hidden) (white (at_number w (image_of w.book s)).chan) keep 0 not_next)

  kept_depth : (keep : Bool) (new : Images) → SameDepth w.images new 0 → SameDepth w.images (if keep then new else bordered new (next_image w)) 0
  kept_depth true new same = same
  kept_depth false new same = bordered_depth new (next_image w) ∙ same

  replace_stands : (window host : ℕ) (r : Rect) (name : List ℕ) (keep hidden : Bool) → (window == 0) ≡ false → Stands w (replace_window w window host r name keep hidden)
  unfolding replace_window
  replace_stands window host r name keep hidden counted =
      let s = rio_screen w host in
      let new : Images = next_white w (image_shown w window) s r keep hidden in
      let images : Images = if keep then new else bordered new (next_image w) in
      let taken : World = with_made w images w.book in
      let gone : Went taken (after_freed taken (image_freed w.book window)) = image_went taken window counted apart_book furnished.numbers steady.orderly.screens in
      stands_then w taken _ (made_stand w images (kept_depth keep new (next_depth (image_shown w window) s r keep hidden)))
      (stands_then taken (after_freed taken (image_freed w.book window)) _ gone.stands (window_stands (after_freed taken (image_freed w.book window)) window (next_image w) s name))

  place_stands : (window : ℕ) (at : Point) → Stands w (place_window w window at)
  unfolding place_window
  place_stands window at = images_stand w _ (depth_origin w.images (image_shown w window) (at_number w (image_shown w window)).r.min at 0)

  placed_book : (window : ℕ) → IsApartBook nothing (place_window w window outside).book × AreNumbered (place_window w window outside).book
  unfolding place_window
  placed_book window = (apart_book, furnished.numbers)

  drop_stands : (window : ℕ) → (window == 0) ≡ false → Stands w (drop_window w window)
  unfolding drop_window
  drop_stands window counted =
      let left : World = place_window w window outside in
      let orderly_left : IsOrderly left = (let follows = place_follows w window outside steady.orderly in follows.orderly) in
      let closed : World = after_freed left (screen_freed left.book window) in
      let one = screen_went left window counted (placed_book window).0 (placed_book window).1 orderly_left.screens in
      let orderly_closed : IsOrderly closed = (let follows = screen_closed left window orderly_left in follows.orderly) in
      let two = image_went closed window counted (book_apart nothing left.book closed.book (placed_book window).0 one.book) one.numbers orderly_closed.screens in
      stands_then w left _ (place_stands window outside) (stands_then left closed _ one.stands two.stands)

  filled_depth : (i : ℕ) (r : Rect) (raw : ℕ) (fill : Bool) → SameDepth w.images (if fill then after_fill w.images i r raw else w.images) 0
  filled_depth i r raw true = depth_fill w.images i r raw 0
  filled_depth i r raw false = refl

  host_stands : (window : ℕ) (fill : Bool) → (window == 0) ≡ false → Stands w (host_rio w window fill)
  unfolding host_rio
  host_stands window fill counted =
      let i = image_shown w window in
      let grey = pack (at_number w i).chan (colour_of 0x777777ff) in
      let filled : Images = if fill then after_fill w.images i (inside_border (at_number w i).r) grey else w.images in
      let drawn : World = with_images w filled in
      let orderly_drawn : IsOrderly drawn = record { ties = steady.orderly.ties; images = steady.orderly.images; numbers = steady.orderly.numbers; screens = steady.orderly.screens; spare = steady.orderly.spare } in
      let left : World = after_freed drawn (screen_freed w.book window) in
      let one : Went drawn left = screen_went drawn window counted apart_book furnished.numbers steady.orderly.screens in
      let orderly_left : IsOrderly left = (let follows = screen_closed drawn window orderly_drawn in follows.orderly) in
      stands_then w drawn _ (images_stand w filled (filled_depth i (inside_border (at_number w i).r) grey fill))
      (stands_then drawn left _ one.stands (hosted left orderly_left i (fill_of left.book (rio_screen left 0))))
    where
      hosted : (v : World) → IsOrderly v → (i root_fill : ℕ) → Stands v (with_book v (result_unwrap_or (new_screen v.book manager window false i root_fill) v.book))
      hosted v orderly i root_fill = by (new_screen v.book manager window false i root_fill) refl
        where
          by : (o : Outcome Book) → new_screen v.book manager window false i root_fill ≡ o → Stands v (with_book v (result_unwrap_or o v.book))
          by (Ok book) made = record { root = screen_root v window i root_fill book counted made; rests = new_screen_rests v manager window false i root_fill book orderly made }
          by (Err n) made = record { root = refl; rests = record { screens = λ s at. refl; depth = refl } }

  size_stands : (width height : ℕ) → Stands w (resize_display w width height)
  unfolding resize_display
  size_stands width height = images_stand w _ (depth_resize w.images (image_shown w 0) width height (pack (at_number w (image_shown w 0)).chan (colour_of 0x777777ff)) 0)

  order_stands : (order : Order) → LeavesManager order → fits w order ≡ true → Stands w (after_order w order)
  order_stands (Make window host r name hide depth) leaves fit = make_stands window host r name hide
  order_stands (Place window at) leaves fit = place_stands window at
  order_stands (Replace window host r name keep hidden) leaves fit =
      replace_stands window host r name keep hidden (window_there w window (split _ _ (split _ _ (split _ _ fit).0).0).0).counted
  order_stands (Raise window) leaves fit = images_stand w _ (depth_raise w.images (image_shown w window ∷ []) 0)
  order_stands (Lower window) leaves fit = images_stand w _ (depth_lower w.images (image_shown w window ∷ []) 0)
  order_stands (Drop window) leaves fit = drop_stands window (window_there w window fit).counted
  order_stands (Host window fill) leaves fit = host_stands window fill (window_there w window (split _ _ (split _ _ fit).0).0).counted
  order_stands (Leave client) leaves fit =
      let stays = leave_stays nothing client (all_outside client leaves) w (nothing_apart w furnished) furnished.numbers in
      record { root = stays.book.root; rests = leave_rests client w leaves steady.orderly furnished.named stays.book.root }
  order_stands (Size width height) leaves fit = size_stands width height

  pub ordered_grounded : (order : Order) → LeavesManager order → IsGrounded w → IsGrounded (ordered w order)
  ordered_grounded order leaves ground = by (fits w order) refl
    where
      by : (b : Bool) → fits w order ≡ b → (let next : World = if b then after_order w order else w in IsGrounded next)
      by true fit = let stands = order_stands order leaves fit in grounded_still w (after_order w order) stands.root stands.rests ground
      by false fit = ground
