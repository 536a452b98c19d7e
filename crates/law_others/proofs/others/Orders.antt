-- The window manager's orders on other windows leave a part as it is.
use Rattle.std.proofs.Common.{◌≡◌, ◌≢◌, ◌&&◌, ℕ, Bool, true, false, List, [], ◌∷◌, Option, Some, None, Ok, Err, inl, inr, refl, sym, ap, subst, ◌∙◌}
use Rattle.std.specs.Prelude.{◌==◌, is_some, if◌then◌else◌}
use Rattle.std.specs.Option.{option_map_or}
use Rattle.std.specs.Result.{result_unwrap_or}
use Rattle.std.proofs.lemmas.Bool.{eqb-true}
use Rattle.r9_geom.specs.declared.Point.{Point}
use Rattle.r9_geom.specs.declared.Rect.{Rect}
use Rattle.r9_geom.specs.Geometry.{at_min}
use Rattle.r9_event.specs.declared.event.rio.Order.{Order}
use Rattle.r9_event.specs.declared.event.rio.Order.TheVariants.{Make, Place, Replace, Raise, Lower, Drop, Host, Leave, Size}
use Rattle.model_text.specs.text.Outcome.{Outcome, ◌>>=◌, refuse_if}
use Rattle.model_pixel.specs.Channels.{colour_of, pack}
use Rattle.model_draw_parts.specs.declared.images.ImageId.{ImageId}
use Rattle.model_draw_parts.specs.declared.images.ScreenId.{ScreenId}
use Rattle.model_draw_parts.specs.images.Book.{Book, add_id, fill_of, image, image_id, image_of, is_stale, new_screen, screen_id, tie, tie_of}
use Rattle.model_draw_parts.specs.images.Release.{Freed, free_id, free_screen, nothing_freed}
use Rattle.model_forest.specs.World.{World as Images}
use Rattle.model_forest.specs.Draw.{after_fill}
use Rattle.model_forest.specs.Stack.{after_window, moved}
use Rattle.model_forest.specs.Steps.{after_origin, after_replace, after_replace_on, carried_rect, outside, put_above}
use Rattle.model_draw.specs.draw.World.{World, after_freed, at_number, next_image, with_book, with_images}
use Rattle.model_draw.specs.draw.Making.{is_window, with_made}
use Rattle.model_draw.specs.draw.Orders.{after_order, bordered, corner, drop_window, fits, has_window, host_rio, image_freed, image_shown, inside_border, make_window, manager, new_white, next_white, ordered, place_window, replace_window, rio_screen, screen_freed, stands_on, white, with_window, with_window_id, with_window_name}
use Rattle.law_shown.specs.shown.Showing.{IsOrderly}
use Rattle.law_shown.proofs.shown.Tests.{find-passes, first_false, not-true, not_both, split, value_ok}
use Rattle.law_shown.proofs.shown.Following.{none}
use Rattle.law_shown.proofs.lasting.Freeing.{free_screen_follows}
use Rattle.law_likeness.specs.likeness.Likeness.{AreNumbered}
use Rattle.law_likeness.proofs.likeness.Shapes.{Keeps, keeps_itself, keeps_list, keeps_lower, keeps_origin, keeps_other, keeps_put, keeps_raise, keeps_then, keeps_window, keeps_windows}
use Rattle.law_likeness.proofs.making.Entries.{all_found}
use Rattle.law_others.specs.apart.Apart.{IsApart, IsApartBook, IsHeld, IsOtherScreen, Part, Stays, StaysInBook, StaysInImages}
use Rattle.law_others.proofs.apart.Books.{book_apart, book_itself, book_then}
use Rattle.law_others.proofs.apart.Devices.{books_stay, freed_stays, images_stay, made_stays, stays_apart, stays_itself, stays_then}
use Rattle.law_others.proofs.apart.Releasing.{Goes, free_id_goes, free_screen_goes}
use Rattle.law_others.proofs.apart.Worlds.{canvas_stays, fill_stays, images_itself, images_then, lower_stays, origin_stays, raise_stays, replace_on_stays, replace_stays, together_still, window_stays}
use Rattle.law_others.specs.others.Others.{AreTied, IsManaged, IsOtherOrder, IsOtherWindow}
use Rattle.law_others.proofs.others.Adding.{Adds, id_adds, next_beside, screen_adds, tie_adds}
use Rattle.law_others.proofs.apart.Looking.{ground_beside, not_bare, own_beside}
use Rattle.law_others.proofs.others.Messages.{leave_stays}

module _ (part : Part) (managed : IsManaged part) where
  -- ---- what the manager looks up

  -- the image of another window
  image_other : (w : World) (window : ℕ) → IsApart part w → IsOtherWindow part window → part.image (image_shown w window) → ⊥
  image_other w window apart other = by (image_id w.book manager window) refl
    where
      by : (o : Option ImageId) → image_id w.book manager window ≡ o → part.image (option_map_or (λ e. e.image) o 0) → ⊥
      by None found is = apart.book.display is
      by (Some e) found is = own_beside part manager window other.counted other.none w.book e apart.book found is

  -- the screen of a rio that is there
  rio_other : (w : World) (host : ℕ) → IsApart part w → is_some (screen_id w.book manager host) ≡ true → part.screen (rio_screen w host) → ⊥
  rio_other w host apart there = by (screen_id w.book manager host) refl there
    where
      by : (o : Option ScreenId) → screen_id w.book manager host ≡ o → is_some o ≡ true → part.screen (option_map_or (λ e. e.screen) o 0) → ⊥
      by None found there is = absurd cc
      by (Some e) found there is =
          let parts = split _ _ (find-passes (λ (x : ScreenId). (x.client == manager) && (x.id == host)) w.book.screen_ids e found) in
          managed.screens e.id
          (subst (λ (n : ℕ). part.screen_id n e.id) (eqb-true e.client manager parts.0)
          (all_found (λ (x : ScreenId). part.screen x.screen → part.screen_id x.client x.id × (x.public ≡ false)) _ w.book.screen_ids e apart.book.screen_ids found is).0)

  shown_of : (b : Book) (window i : ℕ) → image b manager window ≡ Ok i → (e : ImageId) × (image_id b manager window ≡ Some e) × (e.image ≡ i)
  unfolding image
  shown_of b window i looked =
      let found = value_ok (image_id b manager window) 4 _ i looked in
      (found.0, found.1, by (is_stale b found.0) found.0.image found.2)
    where
      by : (stale : Bool) (j : ℕ) → (refuse_if stale 18 >>= λ _. Ok j) ≡ Ok i → j ≡ i
      by true j h = absurd cc
      by false j h = cc

  other_screen : (window : ℕ) → IsOtherWindow part window → IsOtherScreen part manager window
  other_screen window other = record {
    ids = λ k x own. not-true ((manager == k) && (window == x)) (λ at.
        managed.screens x (subst (λ (n : ℕ). part.screen_id n x) (sym (eqb-true manager k (split (manager == k) (window == x) at).0)) own));
    root = other.counted;
  }

  -- ---- a window's id and name

  pub tied_still : (old new : Book) → AreTied part old → StaysInBook part old new → AreTied part new
  tied_still old new names stays name is = ap is_some (stays.ties name is) ∙ names name is

  adds_nothing : (b : Book) → AreNumbered b → Adds part b b
  adds_nothing b numbers = record { book = book_itself part b; numbers = numbers }

  window_stays_in : (w : World) (window i s : ℕ) (name : List ℕ) → IsApart part w → AreNumbered w.book → IsOtherWindow part window → AreTied part w.book → (IsHeld part i → ⊥) → (part.screen s → ⊥)
      → Stays part w (with_window w window i s name)
  window_stays_in w window i s name apart numbers other names none_image none_screen =
      let one = by_id (add_id w.book manager window i (Some s)) refl in
      let b = with_window_id w.book window i s in
      let two = by_tie b (book_apart part w.book b apart.book one.book) one.numbers (tied_still w.book b names one.book) (tie b manager window name) refl in
      books_stay part w (with_window_name b window name) (book_then part w.book b (with_window_name b window name) one.book two.book) (λ _. two.numbers)
    where
      same : (t : ℕ) → ◌≡◌ {A = Option ℕ} (Some s) (Some t) → s ≡ t
      same t is = cc

      by_id : (o : Outcome Book) → add_id w.book manager window i (Some s) ≡ o → Adds part w.book (result_unwrap_or o w.book)
      by_id (Ok b) added = id_adds part manager window other.id w.book b i (Some s) numbers none_image (λ t at is. none_screen (subst part.screen (sym (same t at)) is)) added
      by_id (Err n) added = adds_nothing w.book numbers

      by_tie : (b : Book) → IsApartBook part b → AreNumbered b → AreTied part b → (o : Outcome Book) → tie b manager window name ≡ o → Adds part b (result_unwrap_or o b)
      by_tie b apart numbers names (Ok next) tied =
          tie_adds part manager window other.none managed.client b next name numbers
          (λ j looked is.
          let shown = shown_of b window j looked in
          own_beside part manager window other.counted other.none b shown.0 apart shown.1 (subst part.image (sym shown.2) is))
          (λ free is. not_both (is_some (tie_of b name)) (names name is) (first_false (is_some (tie_of b name)) _ free)) tied
      by_tie b apart numbers names (Err n) tied = adds_nothing b numbers

  -- ---- what is freed

  goes_nothing : (b : Book) → AreNumbered b → Goes part (nothing_freed b) (nothing_freed b)
  goes_nothing b numbers = record { book = book_itself part b; gone = tt; numbers = numbers }

  image_goes : (b : Book) (window : ℕ) → IsApartBook part b → AreNumbered b → IsOtherWindow part window → Goes part (nothing_freed b) (image_freed b window)
  image_goes b window apart numbers other = by (free_id b manager window) refl
    where
      by : (o : Outcome Freed) → free_id b manager window ≡ o → Goes part (nothing_freed b) (result_unwrap_or o (nothing_freed b))
      by (Ok freed) e = free_id_goes part b manager window freed other.counted other.id other.none apart numbers e
      by (Err n) e = goes_nothing b numbers

  screen_goes : (b : Book) (window : ℕ) → IsApartBook part b → AreNumbered b → IsOtherWindow part window → Goes part (nothing_freed b) (screen_freed b window)
  screen_goes b window apart numbers other = by (free_screen b manager window) refl
    where
      by : (o : Outcome Freed) → free_screen b manager window ≡ o → Goes part (nothing_freed b) (result_unwrap_or o (nothing_freed b))
      by (Ok freed) e = free_screen_goes part b manager window freed (other_screen window other) apart numbers e
      by (Err n) e = goes_nothing b numbers

  -- ---- images of windows

  module _ (w : World) (apart : IsApart part w) where
    none_next : part.image (next_image w) → ⊥
    none_next is = next_beside part w apart (inl is)

    zero_other : 0 ≢ next_image w
    zero_other at = next_beside part w apart (inr (sym at))

    white_stays : (s : ℕ) (r : Rect) (hide : Bool) → (part.screen s → ⊥) → StaysInImages part w.images (new_white w s r hide)
    white_stays s r false none = window_stays part w.images (next_image w) (image_of w.book s) (fill_of w.book s) r _ none_next (ground_beside part w.book s apart.book none).0
    white_stays s r true none =
        let pixel = white (at_number w (image_of w.book s)).chan in
        let on = after_window w.images (next_image w) (image_of w.book s) (fill_of w.book s) (at_min r outside) pixel in
        let one = window_stays part w.images (next_image w) (image_of w.book s) (fill_of w.book s) (at_min r outside) pixel none_next (ground_beside part w.book s apart.book none).0 in
        images_then part w.images on _ one (origin_stays part on (next_image w) r.min outside (together_still part w.images on apart.stands one) none_next)

    white_keeps : (s : ℕ) (r : Rect) (hide : Bool) → Keeps w.images (new_white w s r hide) 0
    white_keeps s r false = keeps_window w.images (next_image w) (image_of w.book s) (fill_of w.book s) r _ 0 zero_other
    white_keeps s r true =
        let pixel = white (at_number w (image_of w.book s)).chan in
        let on = after_window w.images (next_image w) (image_of w.book s) (fill_of w.book s) (at_min r outside) pixel in
        keeps_then w.images on _ 0 (keeps_window w.images (next_image w) (image_of w.book s) (fill_of w.book s) (at_min r outside) pixel 0 zero_other) (keeps_origin on (next_image w) r.min outside 0 zero_other)

    bordered_stays : (images : Images) → StaysInImages part images (bordered images (next_image w))
    unfolding bordered
    bordered_stays images = canvas_stays part images (next_image w) _ _ none_next

    bordered_keeps : (images : Images) → Keeps images (bordered images (next_image w)) 0
    unfolding bordered
    bordered_keeps images = keeps_other images (next_image w) 0 _ zero_other

    replace_keeps : (old : ℕ) (r : Rect) (at : Point) (raw : ℕ) (keep : Bool) → Keeps w.images (after_replace w.images (next_image w) old r at raw keep) 0
    unfolding after_replace
    replace_keeps old r at raw keep =
        keeps_then w.images _ _ 0 (keeps_other w.images (next_image w) 0 _ zero_other)
        (keeps_then _ _ _ 0 (keeps_list _ old (put_above (record { image = next_image w; place = carried_rect r r.min at }) old) 0)
        (keeps_list _ old (moved old (carried_rect (at_number w old).r (at_number w old).r.min outside)) 0))

    replace_on_keeps : (old parent fill : ℕ) (r : Rect) (at : Point) (raw : ℕ) (keep : Bool) → Keeps w.images (after_replace_on w.images (next_image w) old parent fill r at raw keep) 0
    unfolding after_replace_on
    replace_on_keeps old parent fill r at raw keep =
        keeps_then w.images _ _ 0 (keeps_other w.images (next_image w) 0 _ zero_other)
        (keeps_then _ _ _ 0 (keeps_windows _ parent 0 (record { image = next_image w; place = carried_rect r r.min at } ∷ (at_number w parent).windows))
        (keeps_list _ old (moved old (carried_rect (at_number w old).r (at_number w old).r.min outside)) 0))

    next_stays : (old s : ℕ) (r : Rect) (keep hidden : Bool) → (part.image old → ⊥) → (part.screen s → ⊥) → StaysInImages part w.images (next_white w old s r keep hidden)
    next_stays old s r keep hidden other none = by (stands_on w.book old s) refl
      where
        by : (b : Bool) → stands_on w.book old s ≡ b → StaysInImages part w.images (next_white w old s r keep hidden)
        by true is = rw is (replace_stays part w.images (next_image w) old r (corner r hidden) (white (at_number w old).chan) keep apart.stands none_next other)
        by false is =
            rw is
            (replace_on_stays part w.images (next_image w) old (image_of w.book s) (fill_of w.book s) r (corner r hidden) (white (at_number w (image_of w.book s)).chan) keep apart.stands none_next other
            (ground_beside part w.book s apart.book none).0)

    next_keeps : (old s : ℕ) (r : Rect) (keep hidden : Bool) → Keeps w.images (next_white w old s r keep hidden) 0
    next_keeps old s r keep hidden = by (stands_on w.book old s) refl
      where
        by : (b : Bool) → stands_on w.book old s ≡ b → Keeps w.images (next_white w old s r keep hidden) 0
        by true is = rw is (replace_keeps old r (corner r hidden) (white (at_number w old).chan) keep)
        by false is = rw is (replace_on_keeps old (image_of w.book s) (fill_of w.book s) r (corner r hidden) (white (at_number w (image_of w.book s)).chan) keep)

    filled_stays : (i : ℕ) (r : Rect) (raw : ℕ) (fill : Bool) → (part.image i → ⊥) → StaysInImages part w.images (if fill then after_fill w.images i r raw else w.images)
    filled_stays i r raw true none = fill_stays part w.images i r raw none
    filled_stays i r raw false none = images_itself part w.images

    filled_keeps : (i : ℕ) (r : Rect) (raw : ℕ) (fill : Bool) → Keeps w.images (if fill then after_fill w.images i r raw else w.images) 0
    unfolding after_fill
    filled_keeps i r raw true = keeps_put w.images i 0 _ (record { r = refl; clipr = refl; repl = refl; chan = refl })
    filled_keeps i r raw false = keeps_itself w.images 0

  -- ---- each order

  make_stays : (w : World) (window host : ℕ) (r : Rect) (name : List ℕ) (hide : Bool) → IsApart part w → AreNumbered w.book → IsOtherWindow part window → AreTied part w.book
      → is_some (screen_id w.book manager host) ≡ true → Stays part w (make_window w window host r name hide)
  unfolding make_window
  make_stays w window host r name hide apart numbers other names there =
      let s = rio_screen w host in
      let i = next_image w in
      let new = new_white w s r hide in
      let images = bordered new i in
      let taken : World = with_made w images w.book in
      let none_screen = rio_other w host apart there in
      let one : Stays part w taken = made_stays part w images (images_then part w.images new images (white_stays w apart s r hide none_screen) (bordered_stays w apart new))
      (keeps_then w.images new images 0 (white_keeps w apart s r hide) (bordered_keeps w apart new)) in
      stays_then part w taken _ one (window_stays_in taken window i s name (stays_apart part w taken apart one) numbers other names (next_beside part w apart) none_screen)

  replace_window_stays : (w : World) (window host : ℕ) (r : Rect) (name : List ℕ) (keep hidden : Bool) → IsApart part w → AreNumbered w.book → IsOtherWindow part window → AreTied part w.book
      → is_some (screen_id w.book manager host) ≡ true → Stays part w (replace_window w window host r name keep hidden)
  unfolding replace_window
  replace_window_stays w window host r name keep hidden apart numbers other names there =
      let s = rio_screen w host in
      let i = next_image w in
      let new = next_white w (image_shown w window) s r keep hidden in
      let images = if keep then new else bordered new i in
      let taken : World = with_made w images w.book in
      let none_screen = rio_other w host apart there in
      let freed = image_freed w.book window in
      let left : World = after_freed taken freed in
      let one : Stays part w taken = made_stays part w images
      (images_then part w.images new images (next_stays w apart (image_shown w window) s r keep hidden (image_other w window apart other) none_screen) (kept_stays keep new))
      (keeps_then w.images new images 0 (next_keeps w apart (image_shown w window) s r keep hidden) (kept_keeps keep new)) in
      let goes = image_goes w.book window apart.book numbers other in
      let apart_taken = stays_apart part w taken apart one in
      let two : Stays part taken left = freed_stays part taken freed apart_taken goes in
      stays_then part w taken _ one
      (stays_then part taken left _ two (window_stays_in left window i s name (stays_apart part taken left apart_taken two) (two.numbers numbers) other (tied_still w.book left.book names two.book) (next_beside part w apart) none_screen))
    where
      kept_stays : (keep : Bool) (new : Images) → StaysInImages part new (if keep then new else bordered new (next_image w))
      kept_stays true new = images_itself part new
      kept_stays false new = bordered_stays w apart new

      kept_keeps : (keep : Bool) (new : Images) → Keeps new (if keep then new else bordered new (next_image w)) 0
      kept_keeps true new = keeps_itself new 0
      kept_keeps false new = bordered_keeps w apart new

  place_stays : (w : World) (window : ℕ) (at : Point) → IsApart part w → IsOtherWindow part window → is_window w (image_shown w window) ≡ true → Stays part w (place_window w window at)
  unfolding place_window
  place_stays w window at apart other stands =
      let i = image_shown w window in
      images_stay part w (after_origin w.images i (at_number w i).r.min at) (origin_stays part w.images i (at_number w i).r.min at apart.stands (image_other w window apart other))
      (keeps_origin w.images i (at_number w i).r.min at 0 (λ zero. not_bare part w i apart.book stands (sym zero)))

  drop_stays : (w : World) (window : ℕ) → IsApart part w → AreNumbered w.book → IsOtherWindow part window → is_window w (image_shown w window) ≡ true → Stays part w (drop_window w window)
  unfolding drop_window
  drop_stays w window apart numbers other stands =
      let left : World = place_window w window outside in
      let one : Stays part w left = place_stays w window outside apart other stands in
      let apart_left = stays_apart part w left apart one in
      let closed : World = after_freed left (screen_freed left.book window) in
      let two : Stays part left closed = freed_stays part left (screen_freed left.book window) apart_left (screen_goes left.book window apart_left.book (one.numbers numbers) other) in
      let apart_closed = stays_apart part left closed apart_left two in
      stays_then part w left _ one
      (stays_then part left closed _ two
      (freed_stays part closed (image_freed closed.book window) apart_closed (image_goes closed.book window apart_closed.book (two.numbers (one.numbers numbers)) other)))

  host_stays : (w : World) (window : ℕ) (fill : Bool) → IsApart part w → AreNumbered w.book → IsOrderly w → IsOtherWindow part window → is_some (screen_id w.book manager 0) ≡ true → Stays part w (host_rio w window fill)
  unfolding host_rio
  host_stays w window fill apart numbers orderly other there =
      let i = image_shown w window in
      let image = at_number w i in
      let grey = pack image.chan (colour_of 0x777777ff) in
      let filled : Images = if fill then after_fill w.images i (inside_border image.r) grey else w.images in
      let drawn : World = with_images w filled in
      let none = image_other w window apart other in
      let one : Stays part w drawn = images_stay part w filled (filled_stays w apart i (inside_border image.r) grey fill none) (filled_keeps w apart i (inside_border image.r) grey fill) in
      let apart_drawn = stays_apart part w drawn apart one in
      let freed = screen_freed w.book window in
      let left : World = after_freed drawn freed in
      let two : Stays part drawn left = freed_stays part drawn freed apart_drawn (screen_goes w.book window apart.book numbers other) in
      let apart_left = stays_apart part drawn left apart_drawn two in
      let root_fill = fill_of left.book (rio_screen left 0) in
      let none_fill = (ground_beside part left.book (rio_screen left 0) apart_left.book (rio_other left 0 apart_left (ap (λ (o : Option ScreenId). is_some o) two.book.root ∙ there))).1 in
      let orderly_drawn : IsOrderly drawn = record { ties = orderly.ties; images = orderly.images; numbers = orderly.numbers; screens = orderly.screens; spare = orderly.spare } in
      stays_then part w drawn _ one
      (stays_then part drawn left _ two
      (hosted left apart_left (two.numbers numbers) (left_orderly drawn orderly_drawn (free_screen drawn.book manager window) refl) i root_fill none none_fill))
    where
      left_orderly : (v : World) → IsOrderly v → (o : Outcome Freed) → free_screen v.book manager window ≡ o → IsOrderly (after_freed v (result_unwrap_or o (nothing_freed v.book)))
      left_orderly v o (Ok freed) e = (free_screen_follows (λ _. true) v manager window freed o e (λ host closed. absurd (let no : ◌≡◌ {A = Bool} true false = closed in cc))).orderly
      left_orderly v o (Err n) e = record { ties = o.ties; images = o.images; numbers = o.numbers; screens = o.screens; spare = o.spare }

      hosted : (left : World) → IsApart part left → AreNumbered left.book → IsOrderly left → (i root_fill : ℕ) → (part.image i → ⊥) → (part.image root_fill → ⊥)
          → Stays part left (with_book left (result_unwrap_or (new_screen left.book manager window false i root_fill) left.book))
      hosted left apart numbers orderly i root_fill none nor = by (new_screen left.book manager window false i root_fill) refl
        where
          by : (o : Outcome Book) → new_screen left.book manager window false i root_fill ≡ o → Stays part left (with_book left (result_unwrap_or o left.book))
          by (Ok b) made =
              let added = screen_adds part manager window (other_screen window other) left.book b false i root_fill apart.book numbers orderly.spare none nor made in
              books_stay part left b added.book (λ _. added.numbers)
          by (Err n) made = stays_itself part left

  -- what there is of a window that is there
  stands : (w : World) (window : ℕ) → has_window w window ≡ true → is_window w (image_shown w window) ≡ true
  stands w window has = (split _ (is_window w (image_shown w window)) has).1

  first : (w : World) (window : ℕ) → IsApart part w → IsOtherWindow part window → (i : ℕ) (rest : List ℕ) → image_shown w window ∷ [] ≡ i ∷ rest → part.image i → ⊥
  first w window apart other i rest is held = image_other w window apart other (subst part.image (sym (ap (λ (xs : List ℕ). head xs) is)) held)
    where
      head : List ℕ → ℕ
      head [] = 0
      head (x ∷ xs) = x

  order_stays : (w : World) (order : Order) → IsApart part w → AreNumbered w.book → IsOrderly w → AreTied part w.book → IsOtherOrder part order → fits w order ≡ true → Stays part w (after_order w order)
  order_stays w (Make window host r name hide depth) apart numbers orderly names other may = make_stays w window host r name hide apart numbers other names (split _ _ (split _ _ may).0).0
  order_stays w (Place window at) apart numbers orderly names other may = place_stays w window at apart other (stands w window (split _ _ may).0)
  order_stays w (Replace window host r name keep hidden) apart numbers orderly names other may =
      replace_window_stays w window host r name keep hidden apart numbers other names (split _ _ (split _ _ (split _ _ may).0).0).1
  order_stays w (Raise window) apart numbers orderly names other may =
      images_stay part w _ (raise_stays part w.images (image_shown w window ∷ []) apart.stands apart.book.display (λ i rest is. first w window apart other i rest is)) (keeps_raise w.images (image_shown w window ∷ []) 0)
  order_stays w (Lower window) apart numbers orderly names other may =
      images_stay part w _ (lower_stays part w.images (image_shown w window ∷ []) apart.stands apart.book.display (λ i rest is. first w window apart other i rest is)) (keeps_lower w.images (image_shown w window ∷ []) 0)
  order_stays w (Drop window) apart numbers orderly names other may = drop_stays w window apart numbers other (stands w window may)
  order_stays w (Host window fill) apart numbers orderly names other may = host_stays w window fill apart numbers orderly other (split _ _ (split _ _ may).0).1
  order_stays w (Leave client) apart numbers orderly names other may = leave_stays part client other w apart numbers
  order_stays w (Size width height) apart numbers orderly names other may = absurd other

  pub ordered_stays : (w : World) (order : Order) → IsApart part w → AreNumbered w.book → IsOrderly w → AreTied part w.book → IsOtherOrder part order → Stays part w (ordered w order)
  ordered_stays w order apart numbers orderly names other = by (fits w order) refl
    where
      by : (b : Bool) → fits w order ≡ b → Stays part w (if b then after_order w order else w)
      by true may = order_stays w order apart numbers orderly names other may
      by false may = stays_itself part w
