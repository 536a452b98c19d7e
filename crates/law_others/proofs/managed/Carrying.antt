-- A draw device is whole and orderly still after each order of the window manager, and after lists of them.
use Rattle.std.proofs.Common.{◌≡◌, ◌||◌, ◌&&◌, ℕ, Bool, true, false, List, [], ◌∷◌, Option, Some, None, Ok, Err, refl, sym, ap, subst, ◌∙◌}
use Rattle.std.specs.Prelude.{◌==◌, All, is_none, is_some, not, if◌then◌else◌}
use Rattle.std.specs.List.{list_any}
use Rattle.std.specs.Result.{result_unwrap_or}
use Rattle.std.proofs.lemmas.List.Elements.{All-head, All-tail}
use Rattle.r9_geom.specs.declared.Rect.{Rect}
use Rattle.r9_geom.specs.Geometry.{is_point}
use Rattle.r9_event.specs.declared.event.rio.Order.{Order}
use Rattle.r9_event.specs.declared.event.rio.Order.TheVariants.{Make, Place, Replace, Raise, Lower, Drop, Host, Leave, Size}
use Rattle.model_text.specs.text.Outcome.{Outcome}
use Rattle.model_forest.specs.World.{World as Images, origin_point}
use Rattle.model_exchanged.specs.resize.Resize.{after_resize}
use Rattle.model_draw_parts.specs.declared.images.ImageId.{ImageId}
use Rattle.model_draw_parts.specs.declared.images.ScreenId.{ScreenId}
use Rattle.model_draw_parts.specs.images.Book.{Book, add_id, image_id, is_image_id_taken, screen_numbered, tie}
use Rattle.model_draw_parts.specs.images.Release.{Freed, free_id, nothing_freed}
use Rattle.model_draw_parts.proofs.images.Freed.{free_id-frees}
use Rattle.model_draw.specs.draw.World.{World, after_freed, at_number, next_image, with_book}
use Rattle.model_draw.specs.draw.Making.{is_window, with_made}
use Rattle.model_draw.specs.draw.Orders.{after_order, bordered, can_keep, carried_out, drop_window, fits, has_display, has_rio, has_window, image_freed, image_shown, is_near_point, is_side, is_window_rect, make_window, manager, new_white, ordered, place_window, replace_window, resize_display, rio_screen, screen_freed, with_window, with_window_name}
use Rattle.model_forest.specs.Steps.{outside}
use Rattle.law_shown.specs.shown.Showing.{IsOrderly, IsOut}
use Rattle.law_shown.proofs.shown.Numbers.{gone-book, gone-out, next_out, out_taken, spare_next}
use Rattle.law_shown.proofs.shown.Tests.{first_true, split}
use Rattle.law_shown.proofs.lasting.Adding.{added_follows, tie_follows}
use Rattle.law_shown.proofs.lasting.Freeing.{free_id-screen_ids, free_id-there, freed_beside, window_freed, window_unknown}
use Rattle.law_shown.proofs.lasting.Messages.{leave_still}
use Rattle.law_shown.proofs.lasting.Ordering.{free_taken, next_unused, place_follows, raise_follows, lower_follows, screen_closed}
use Rattle.law_likeness.proofs.making.Making.{entered}
use Rattle.law_likeness.specs.whole.Steady.{IsSteady}
use Rattle.law_likeness.proofs.whole.Freeing.{leave_whole}
use Rattle.law_likeness.proofs.whole.Resting.{images_whole, put_rests}
use Rattle.law_others.specs.managed.Ending.{LeavesManager}
use Rattle.law_others.proofs.managed.Ordering.{drop_whole, host_orderly, host_whole, id_given, lower_whole, make_whole, place_whole, raise_whole, rio_there, shown_lives, window_there}
use Rattle.law_others.proofs.managed.Replaced.{replace_whole, rio_held}

-- ---- orderly still

orderly_made : (w : World) (images : Images) → IsOrderly w → IsOrderly (with_made w images w.book)
orderly_made w images o = record {
  ties = o.ties;
  images = λ i used. out_taken w.numbers i (o.images i used);
  numbers = spare_next w.numbers o.numbers;
  screens = o.screens;
  spare = o.spare;
}

id_added : (book : Book) (window i s : ℕ) → is_image_id_taken book manager window ≡ false → add_id book manager window i (Some s) ≡ Ok (entered book manager window i (Some s))
unfolding add_id
id_added book window i s free = rw free refl

window_orderly : (w : World) (window i s : ℕ) (name : List ℕ) → IsOrderly w → IsOut w.numbers i → image_id w.book manager window ≡ None → is_some (screen_numbered w.book s) ≡ true
    → IsOrderly (with_window w window i s name)
window_orderly w window i s name o out none there =
    let free = free_taken w.book window none in
    let one = added_follows (λ n. true) w (entered w.book manager window i (Some s)) manager window i (Some s) o out (λ t at. subst (λ (n : ℕ). is_some (screen_numbered w.book n) ≡ true) (number_is s t at) there)
    (id_added w.book window i s free) (λ serial at. absurd cc) in
    subst (λ (b : Book). IsOrderly (with_book w (with_window_name b window name))) (sym (id_given w.book window i s free))
    (by (with_book w (entered w.book manager window i (Some s))) one.orderly (tie (entered w.book manager window i (Some s)) manager window name) refl)
  where
    number_is : (a b : ℕ) → ◌≡◌ {A = Option ℕ} (Some a) (Some b) → a ≡ b
    number_is a b at = cc

    by : (v : World) → IsOrderly v → (o : Outcome Book) → tie v.book manager window name ≡ o → IsOrderly (with_book v (result_unwrap_or o v.book))
    by v orderly (Ok next) e = (let follows = tie_follows v manager window name next orderly e in follows.orderly)
    by v orderly (Err n) e = record { ties = orderly.ties; images = orderly.images; numbers = orderly.numbers; screens = orderly.screens; spare = orderly.spare }

make_orderly : (w : World) (window host : ℕ) (r : Rect) (name : List ℕ) (hide : Bool) → IsSteady w → has_rio w host ≡ true → image_id w.book manager window ≡ None → IsOrderly (make_window w window host r name hide)
unfolding make_window
make_orderly w window host r name hide steady rio none =
    let i = next_image w in
    let images : Images = bordered (new_white w (rio_screen w host) r hide) i in
    window_orderly (with_made w images w.book) window i (rio_screen w host) name (orderly_made w images steady.orderly) (next_out w.numbers steady.orderly.numbers) none (rio_there w host steady.whole rio)

module _ (w : World) (steady : IsSteady w) (window host : ℕ) (images : Images) (counted : (window == 0) ≡ false) (e : ImageId) (found : image_id w.book manager window ≡ Some e) (rio : has_rio w host ≡ true) where
  abbrev made : World
  made = with_made w images w.book

  freeing : (freed : Freed) × (free_id w.book manager window ≡ Ok freed)
  freeing = free_id-there w.book window e counted found

  abbrev left : World
  left = after_freed made freeing.0

  orderly_left : IsOrderly left
  orderly_left = (let follows = window_freed made window freeing.0 (orderly_made w images steady.orderly) counted freeing.1 in follows.orderly)

  book_left : left.book ≡ freeing.0.book
  book_left = gone-book freeing.0.gone (with_book made freeing.0.book)

  out_left : IsOut left.numbers (next_image w)
  out_left =
      gone-out freeing.0.gone (with_book made freeing.0.book) (next_image w) (next_out w.numbers steady.orderly.numbers)
      (freed_beside made freeing.0 (next_image w) (free_id-frees w.book manager window freeing.0 steady.orderly.screens freeing.1) (next_unused w steady.orderly))

  screen_left : is_some (screen_numbered left.book (rio_screen w host)) ≡ true
  screen_left =
      orderly_left.screens (rio_screen w host)
      (first_true _ _ (ap (λ (b : Book). list_any (λ x. x.screen == rio_screen w host) b.screen_ids) book_left
      ∙ ap (λ (ids : List ScreenId). list_any (λ x. x.screen == rio_screen w host) ids) (free_id-screen_ids w.book manager window freeing.0 freeing.1)
      ∙ rio_held w host rio))

  replaced_orderly : (name : List ℕ) → IsOrderly (with_window (after_freed made (image_freed w.book window)) window (next_image w) (rio_screen w host) name)
  replaced_orderly name =
      subst (λ (o : Outcome Freed). IsOrderly (with_window (after_freed made (result_unwrap_or o (nothing_freed w.book))) window (next_image w) (rio_screen w host) name)) (sym freeing.1)
      (window_orderly left window (next_image w) (rio_screen w host) name orderly_left out_left (ap (λ (b : Book). image_id b manager window) book_left ∙ window_unknown w.book window freeing.0 counted freeing.1) screen_left)

replace_orderly : (w : World) (window host : ℕ) (r : Rect) (name : List ℕ) (keep hidden : Bool) → IsSteady w → has_window w window ≡ true → has_rio w host ≡ true → IsOrderly (replace_window w window host r name keep hidden)
unfolding replace_window
replace_orderly w window host r name keep hidden steady has rio = by (image_id w.book manager window) refl (window_there w window has).known
  where
    by : (o : Option ImageId) → image_id w.book manager window ≡ o → is_some o ≡ true → IsOrderly (replace_window w window host r name keep hidden)
    by None found some = absurd cc
    by (Some e) found some = replaced_orderly w steady window host _ (window_there w window has).counted e found rio name

drop_orderly : (w : World) (window : ℕ) → IsSteady w → has_window w window ≡ true → IsOrderly (drop_window w window)
unfolding drop_window
drop_orderly w window steady has =
    let left : World = place_window w window outside in
    let one = place_follows w window outside steady.orderly in
    let closed : World = after_freed left (screen_freed left.book window) in
    let two = screen_closed left window one.orderly in
    by closed two.orderly (free_id closed.book manager window) refl
  where
    by : (v : World) → IsOrderly v → (o : Outcome Freed) → free_id v.book manager window ≡ o → IsOrderly (after_freed v (result_unwrap_or o (nothing_freed v.book)))
    by v orderly (Ok freed) e = (let follows = window_freed v window freed orderly (window_there w window has).counted e in follows.orderly)
    by v orderly (Err n) e = record { ties = orderly.ties; images = orderly.images; numbers = orderly.numbers; screens = orderly.screens; spare = orderly.spare }

-- ---- another size

display_known : (w : World) → has_display w ≡ true → is_some (image_id w.book manager 0) ≡ true
display_known w has =
    let i = image_shown w 0 in
    let known = is_some (image_id w.book manager 0) in
    let apart = not (is_window w i) in
    let corner = is_point (at_number w i).r.min origin_point in
    (split known apart (split (known && apart) corner (split (known && apart && corner) (not (at_number w i).repl) has).0).0).0

size_steady : (w : World) (width height : ℕ) → IsSteady w → has_display w ≡ true → IsSteady (resize_display w width height)
unfolding resize_display after_resize
size_steady w width height steady has = record {
  whole = images_whole w _ (put_rests w.images (image_shown w 0) _ (shown_lives w 0 steady.whole (display_known w has)) refl (λ P all. all)) steady.whole;
  orderly = (let o = steady.orderly in record { ties = o.ties; images = o.images; numbers = o.numbers; screens = o.screens; spare = o.spare });
}

-- ---- each order

none_is : (o : Option ImageId) → is_none o ≡ true → o ≡ None
none_is None none = refl
none_is (Some e) none = absurd cc

after_steady : (w : World) (o : Order) → LeavesManager o → IsSteady w → fits w o ≡ true → IsSteady (after_order w o)
after_steady w (Make window host r name hide depth) leaves steady fit =
    let both = split (has_rio w host) (is_none (image_id w.book manager window)) (split (has_rio w host && is_none (image_id w.book manager window)) (is_window_rect r) fit).0 in
    let none = none_is (image_id w.book manager window) both.1 in
    record { whole = make_whole w window host r name hide steady.whole steady.orderly both.0 none; orderly = make_orderly w window host r name hide steady both.0 none }
after_steady w (Place window at) leaves steady fit =
    let has = (split (has_window w window) (is_near_point at) fit).0 in
    record { whole = place_whole w window at steady.whole has; orderly = (let follows = place_follows w window at steady.orderly in follows.orderly) }
after_steady w (Replace window host r name keep hidden) leaves steady fit =
    let s = rio_screen w host in
    let all = split (has_window w window && has_rio w host && is_window_rect r) (not keep || can_keep w window s r) fit in
    let both = split (has_window w window) (has_rio w host) (split (has_window w window && has_rio w host) (is_window_rect r) all.0).0 in
    record { whole = replace_whole w window host r name keep hidden steady.whole steady.orderly both.0 both.1; orderly = replace_orderly w window host r name keep hidden steady both.0 both.1 }
after_steady w (Raise window) leaves steady fit = record { whole = raise_whole w window steady.whole fit; orderly = (let follows = raise_follows w window steady.orderly in follows.orderly) }
after_steady w (Lower window) leaves steady fit = record { whole = lower_whole w window steady.whole fit; orderly = (let follows = lower_follows w window steady.orderly in follows.orderly) }
after_steady w (Drop window) leaves steady fit = record { whole = drop_whole w window steady.whole fit; orderly = drop_orderly w window steady fit }
after_steady w (Host window fill) leaves steady fit =
    let both = split (has_window w window) (has_rio w 0) (split (has_window w window && has_rio w 0) (is_window_rect (at_number w (image_shown w window)).r) fit).0 in
    record { whole = host_whole w window fill steady.whole steady.orderly both.0 both.1; orderly = host_orderly w window fill steady.whole steady.orderly both.0 both.1 }
after_steady w (Leave client) leaves steady fit = record { whole = leave_whole w client steady.whole; orderly = (let follows = leave_still w client leaves steady.orderly in follows.orderly) }
after_steady w (Size width height) leaves steady fit = size_steady w width height steady (split (is_side width && is_side height) (has_display w) fit).1

pub ordered_steady : (w : World) (o : Order) → LeavesManager o → IsSteady w → IsSteady (ordered w o)
ordered_steady w o leaves steady = by (fits w o) refl
  where
    by : (b : Bool) → fits w o ≡ b → (let next : World = if b then after_order w o else w in IsSteady next)
    by true fit = after_steady w o leaves steady fit
    by false fit = steady

pub carried_steady : (orders : List Order) (w : World) → All LeavesManager orders → IsSteady w → IsSteady (carried_out w orders)
carried_steady [] w leaves steady = steady
carried_steady (o ∷ orders) w leaves steady = carried_steady orders (ordered w o) (All-tail LeavesManager o orders leaves) (ordered_steady w o (All-head LeavesManager o orders leaves) steady)
