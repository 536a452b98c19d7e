-- What each order of the window manager leaves of what a device shows.
use Rattle.std.proofs.Common.{◌≡◌, ℕ, Bool, true, false, ℤ, ◌-ℤ◌, ◌+ℤ◌, List, [], ◌∷◌, Option, Some, None, Ok, Err, refl, sym, ap, subst, ◌∙◌, arith}
use Rattle.std.specs.Prelude.{◌==◌, ◌||◌, ◌&&◌, find, not, is_some, if◌then◌else◌}
use Rattle.std.specs.Ordering.{int_eq}
use Rattle.std.specs.Option.{option_map_or}
use Rattle.std.specs.Result.{result_unwrap_or}
use Rattle.std.proofs.lemmas.Bool.Decides.{nat_tests}
use Rattle.std.proofs.lemmas.Int.{ints}
use Rattle.r9_geom.specs.declared.Point.{Point}
use Rattle.r9_geom.specs.declared.Rect.{Rect}
use Rattle.r9_geom.specs.Geometry.{at_min, is_empty}
use Rattle.model_pixel.specs.Channels.{colour_of, pack}
use Rattle.model_text.specs.text.Outcome.{Outcome, ◌>>=◌, refuse_if, value_or_refuse}
use Rattle.model_forest.specs.World.{SameSize, World as Images, image_at}
use Rattle.model_forest.specs.Draw.{after_fill}
use Rattle.model_forest.specs.Stack.{after_lower, after_raise, after_window}
use Rattle.model_forest.specs.Steps.{after_origin, after_replace, after_replace_on, carried_rect, outside}
use Rattle.model_draw_parts.specs.declared.images.ImageId.{ImageId}
use Rattle.model_draw_parts.specs.declared.images.Screen.{Screen as Filled}
use Rattle.model_draw_parts.specs.declared.images.ScreenId.{ScreenId}
use Rattle.model_draw_parts.specs.declared.images.Thing.TheVariants.{Image}
use Rattle.model_draw_parts.specs.images.Book.{Book, add_id, fill_of, image_id, image_of, is_image_id_taken, new_screen, next_screen, owner, screen_id, screen_numbered, tie}
use Rattle.model_draw_parts.specs.images.Release.{Freed, free_screen, freed_screen_id, has_gone, is_used, nothing_freed}
use Rattle.model_draw_parts.proofs.images.Freed.{free_id-frees}
use Rattle.model_draw.specs.draw.World.{World, after_freed, at_number, next_image, with_book, with_images}
use Rattle.model_draw.specs.draw.Making.{farthest, is_near, is_near_rect, is_window, with_made}
use Rattle.model_draw.specs.draw.Orders.{bordered, can_keep, corner, drop_window, has_rio, has_window, host_rio, image_freed, image_shown, inside_border, is_near_point, is_window_rect, make_window, manager, new_white, next_white, place_window, replace_window, rio_screen, screen_freed, stands_on, white, with_window, with_window_id, with_window_name}
use Rattle.law_shown.specs.shown.Showing.{IsOrderly, IsOut, ShowsRio, ShowsWindow}
use Rattle.law_shown.proofs.shown.Tests.{not-true, same_Some, split, turned}
use Rattle.law_shown.proofs.shown.Numbers.{gone-book, gone-frames, gone-opening, gone-out, next_in, next_out, out_apart, out_taken, spare_next}
use Rattle.law_shown.proofs.shown.Frames.{AllLast, AllSame, Comes, OthersSame, all_framed, border_same, comes_then, fill_same, framed, itself, lower_same, origin_comes, origin_last, raise_same, replace_comes, replace_on_comes, same_size, sizes, window_comes}
use Rattle.law_shown.proofs.shown.Following.{Follows, fill_used, follows, follows_but, follows_itself, follows_then, keeps_same, none, only, screen_used, shown_used}
use Rattle.law_shown.proofs.lasting.Freeing.{free_id-screen_ids, free_id-there, free_screen-image_ids, free_screen-unknown, free_screen_follows, freed_beside, window_freed, window_unknown}
use Rattle.law_shown.proofs.lasting.Adding.{added_follows, added_found, screened_found, screened_follows, tie_follows}

-- ---- what is shown fits

shown_is : (w : World) (window : ℕ) (e : ImageId) → image_id w.book manager window ≡ Some e → image_shown w window ≡ e.image
shown_is w window e found = ap (λ (o : Option ImageId). option_map_or (λ (x : ImageId). x.image) o 0) found

pub shows_has : (w : World) (window : ℕ) (r : Rect) → ShowsWindow w window r → has_window w window ≡ true
shows_has w window r s = (λ i. not (s.counted i) && is_some (s.found i) && is_window w (shown_is w window s.id s.found i)) ∙ s.stands

pub shows_rio : (w : World) (host : ℕ) → ShowsRio w host → has_rio w host ≡ true
shows_rio w host s = ap is_some s.found

screen_is : (w : World) (host : ℕ) (e : ScreenId) → screen_id w.book manager host ≡ Some e → rio_screen w host ≡ e.screen
screen_is w host e found = ap (λ (o : Option ScreenId). option_map_or (λ (x : ScreenId). x.screen) o 0) found

image_is : (book : Book) (s : ℕ) (screen : Filled) → screen_numbered book s ≡ Some screen → image_of book s ≡ screen.image
image_is book s screen numbered = ap (λ (o : Option Filled). option_map_or (λ (x : Filled). x.image) o 0) numbered

-- the image that a rio's screen is on has the channels of the display
rio_chan : (w : World) (host : ℕ) → ShowsRio w host → (at_number w (image_of w.book (rio_screen w host))).chan ≡ w.opening.chan
rio_chan w host s =
    ap (λ (n : ℕ). (at_number w n).chan) (ap (image_of w.book) (screen_is w host s.id s.found) ∙ image_is w.book s.id.screen s.screen s.numbered) ∙ s.chan

-- and so has the image of a window
window_chan : (w : World) (window : ℕ) (r : Rect) → ShowsWindow w window r → (at_number w (image_shown w window)).chan ≡ w.opening.chan
window_chan w window r s = ap (λ (n : ℕ). (at_number w n).chan) (shown_is w window s.id s.found) ∙ s.chan

pub host_rect : (w : World) (window : ℕ) (r : Rect) → ShowsWindow w window r → is_window_rect (at_number w (image_shown w window)).r ≡ true
host_rect w window r s = ap (λ (n : ℕ). is_window_rect (at_number w n).r) (shown_is w window s.id s.found) ∙ s.rect

pub near_corner : (r : Rect) → is_window_rect r ≡ true → is_near_point r.min ≡ true
near_corner r h =
    let near = (split (is_near_rect farthest r) (not (is_empty (inside_border r))) h).0 in
    let abc = (split (is_near farthest r.min.x && is_near farthest r.min.y && is_near farthest r.max.x) (is_near farthest r.max.y) near).0 in
    (split (is_near farthest r.min.x && is_near farthest r.min.y) (is_near farthest r.max.x) abc).0

equal : (a b : ℤ) → a ≡ b → int_eq a b ≡ true
equal a b e = grind (arith, ints)

pub shows_keeps : (w : World) (window host : ℕ) (r to : Rect) → ShowsWindow w window r → ShowsRio w host → SameSize to r → can_keep w window (rio_screen w host) to ≡ true
shows_keeps w window host r to s rio size =
    let old = at_number w (image_shown w window) in
    let all : SameSize to old.r = sizes to r old.r size (subst (λ (n : ℕ). SameSize r (at_number w n).r) (sym (shown_is w window s.id s.found)) s.size) in
    let a = equal (to.max.x -ℤ to.min.x) (old.r.max.x -ℤ old.r.min.x) all.width in
    let b = equal (to.max.y -ℤ to.min.y) (old.r.max.y -ℤ old.r.min.y) all.height in
    let chans : old.chan ≡ (at_number w (image_of w.book (rio_screen w host))).chan = window_chan w window r s ∙ sym (rio_chan w host rio) in
    let c : (old.chan == (at_number w (image_of w.book (rio_screen w host))).chan) ≡ true = grind (arith, nat_tests) in
    rw (a, b, c) refl

-- ---- images that change where they are

pub images_follow : (w : World) (images : Images) → AllLast w.images images → IsOrderly w → Follows none none w (with_images w images)
images_follow w images lasts o =
    follows none none w (with_images w images) refl (keeps_same none none w.book w.book refl) (λ i was now. lasts i)
    (record { ties = o.ties; images = o.images; numbers = o.numbers; screens = o.screens; spare = o.spare })

stays_put : (r : Rect) → carried_rect r r.min r.min ≡ r
stays_put r = λ i. record { min = record { x = low r.min.x i; y = low r.min.y i }; max = record { x = high r.max.x r.min.x i; y = high r.max.y r.min.y i } }
  where
    low : (x : ℤ) → x -ℤ x +ℤ x ≡ x
    low x = omega (arith, ints)

    high : (x y : ℤ) → x -ℤ y +ℤ y ≡ x
    high x y = omega (arith, ints)

pub place_follows : (w : World) (window : ℕ) (at : Point) → IsOrderly w → Follows none none w (place_window w window at)
unfolding place_window
place_follows w window at o =
    let i = image_shown w window in
    let r = (at_number w i).r in
    images_follow w (after_origin w.images i r.min at) (origin_last w.images i r.min at (λ h. subst (λ (s : Rect). is_window_rect s ≡ true) (sym (stays_put r)) h)) o

pub raise_follows : (w : World) (window : ℕ) → IsOrderly w → Follows none none w (with_images w (after_raise w.images (image_shown w window ∷ [])))
raise_follows w window o =
    let images : Images = after_raise w.images (image_shown w window ∷ []) in images_follow w images (all_framed w.images images (raise_same w.images (image_shown w window ∷ []))) o

pub lower_follows : (w : World) (window : ℕ) → IsOrderly w → Follows none none w (with_images w (after_lower w.images (image_shown w window ∷ [])))
lower_follows w window o =
    let images : Images = after_lower w.images (image_shown w window ∷ []) in images_follow w images (all_framed w.images images (lower_same w.images (image_shown w window ∷ []))) o

-- ---- a new image

pub taken_follows : (w : World) (images : Images) → IsOrderly w → OthersSame (next_image w) w.images images → Follows none none w (with_made w images w.book)
taken_follows w images o others =
    follows none none w (with_made w images w.book) refl (keeps_same none none w.book w.book refl)
    (λ i was now. framed (image_at w.images i) (image_at images i) (others i (out_apart w.numbers i (o.images i was))))
    (record { ties = o.ties; images = λ i used. out_taken w.numbers i (o.images i used); numbers = spare_next w.numbers o.numbers; screens = o.screens; spare = o.spare })

-- the next number is that of no image that is used
pub next_unused : (w : World) → IsOrderly w → is_used w.book (Image (next_image w)) ≡ false
next_unused w o = not-true (is_used w.book (Image (next_image w))) (λ used. next_in w.numbers (o.images (next_image w) used))

pub free_taken : (book : Book) (window : ℕ) → image_id book manager window ≡ None → is_image_id_taken book manager window ≡ false
free_taken book window free = ap (λ (o : Option ImageId). ((window == 0) && not (manager == 0)) || is_some o) free ∙ by (window == 0)
  where
    by : (b : Bool) → ((b && not (manager == 0)) || false) ≡ false
    by true = refl
    by false = refl

refused : {A : Type 0} (o : Outcome (Unit {0})) (x : A) (n : ℕ) → (o >>= λ _. Ok x) ≡ Err n → o ≡ Ok tt → ⊥
refused (Ok u) x n e ok = cc
refused (Err m) x n e ok = cc

free_adds : (book : Book) (window i s : ℕ) → image_id book manager window ≡ None → (added : Book) × (add_id book manager window i (Some s) ≡ Ok added) × (with_window_id book window i s ≡ added)
unfolding add_id
free_adds book window i s free = by (add_id book manager window i (Some s)) refl (ap (λ (b : Bool). refuse_if b 6) (free_taken book window free))
  where
    by : (o : Outcome Book) → add_id book manager window i (Some s) ≡ o → refuse_if (is_image_id_taken book manager window) 6 ≡ Ok tt
        → (added : Book) × (o ≡ Ok added) × (result_unwrap_or o book ≡ added)
    by (Ok added) e ok = (added, refl, refl)
    by (Err n) e ok = absurd (refused (refuse_if (is_image_id_taken book manager window) 6) _ n e ok)

tied_follows : (w : World) (window : ℕ) (name : List ℕ) → IsOrderly w → Follows none none w (with_book w (with_window_name w.book window name))
tied_follows w window name o = by (tie w.book manager window name) refl
  where
    by : (t : Outcome Book) → tie w.book manager window name ≡ t → Follows none none w (with_book w (result_unwrap_or t w.book))
    by (Ok next) e = tie_follows w manager window name next o e
    by (Err n) e = follows_itself none none w o

-- an image becomes that of a window
window_follows : (w : World) (window i s : ℕ) (r : Rect) (name : List ℕ) → IsOrderly w → IsOut w.numbers i → (window == 0) ≡ false → is_window_rect r ≡ true → image_id w.book manager window ≡ None
    → is_some (screen_numbered w.book s) ≡ true → (at_number w i).r ≡ r → (at_number w i).chan ≡ w.opening.chan
    → Follows (only window) none w (with_window w window i s name) × ShowsWindow (with_window w window i s name) window r
window_follows w window i s r name o out counted may free there rect chan =
    let add = free_adds w.book window i s free in
    let found = added_found w.book add.0 window i s free add.1 in
    let one : Follows (only window) none w (with_book w add.0) =
    added_follows (only window) w add.0 manager window i (Some s) o out (λ t e. ap (λ (n : ℕ). is_some (screen_numbered w.book n)) (sym (same_Some s t e)) ∙ there) add.1 (λ serial at. turned window serial ∙ at) in
    let shows : ShowsWindow (with_book w add.0) window r = record {
      counted = counted;
      may = may;
      id = record { client = manager; id = window; image = i; tie = None };
      found = found.0;
      stands = found.1;
      size = subst (λ (q : Rect). SameSize r q) (sym rect) (same_size r);
      rect = subst (λ (q : Rect). is_window_rect q ≡ true) (sym rect) may;
      chan = chan;
    } in
    let two : Follows none none (with_book w add.0) (with_book w (with_window_name add.0 window name)) = tied_follows (with_book w add.0) window name one.orderly in
    let is : with_book w (with_window_name add.0 window name) ≡ with_window w window i s name = ap (λ (b : Book). with_book w (with_window_name b window name)) (sym add.2) in (
      subst (Follows (only window) none w) is (follows_then (only window) none w (with_book w add.0) (with_book w (with_window_name add.0 window name)) one (follows_but (only window) none _ _ two)),
      subst (λ (x : World). ShowsWindow x window r) is (two.windows window r refl shows),
    )

-- ---- a window comes

white_comes : (w : World) (s : ℕ) (r : Rect) (hide : Bool) → Comes w.images (new_white w s r hide) (next_image w) r (at_number w (image_of w.book s)).chan
white_comes w s r true =
    let parent = image_of w.book s in
    origin_comes w.images (after_window w.images (next_image w) parent (fill_of w.book s) (at_min r outside) (white (at_number w parent).chan)) (next_image w) r (at_number w parent).chan outside
    (window_comes w.images (next_image w) parent (fill_of w.book s) (at_min r outside) (white (at_number w parent).chan))
white_comes w s r false =
    let parent = image_of w.book s in
    window_comes w.images (next_image w) parent (fill_of w.book s) r (white (at_number w parent).chan)

pub make_follows : (w : World) (window host : ℕ) (r : Rect) (name : List ℕ) (hide : Bool) → IsOrderly w → (window == 0) ≡ false → is_window_rect r ≡ true → image_id w.book manager window ≡ None → ShowsRio w host
    → Follows (only window) none w (make_window w window host r name hide) × ShowsWindow (make_window w window host r name hide) window r
unfolding make_window
make_follows w window host r name hide o counted may free rio =
    let s = rio_screen w host in
    let i = next_image w in
    let new : Images = new_white w s r hide in
    let images : Images = bordered new i in
    let chan = (at_number w (image_of w.book s)).chan in
    let comes : Comes w.images images i r chan = comes_then w.images new images i r chan (white_comes w s r hide) (border_same new i) in
    let taken : World = with_made w images w.book in
    let one : Follows none none w taken = taken_follows w images o comes.others in
    let there : is_some (screen_numbered w.book s) ≡ true = ap (λ (n : ℕ). is_some (screen_numbered w.book n)) (screen_is w host rio.id rio.found) ∙ ap is_some rio.numbered in
    let two = window_follows taken window i s r name one.orderly (next_out w.numbers o.numbers) counted may free there comes.place (comes.channels ∙ rio_chan w host rio) in (
      follows_then (only window) none w taken (with_window taken window i s name) (follows_but (only window) none w taken one) two.0,
      two.1,
    )

-- ---- a window gets another image

next_comes : (w : World) (old s : ℕ) (r : Rect) (keep hidden : Bool) (chan : ℕ) → (at_number w old).chan ≡ chan → (at_number w (image_of w.book s)).chan ≡ chan → Comes w.images (next_white w old s r keep hidden) (next_image w) r chan
next_comes w old s r keep hidden chan mine others = by (stands_on w.book old s) refl
  where
    above : Comes w.images (after_replace w.images (next_image w) old r (corner r hidden) (white (at_number w old).chan) keep) (next_image w) r chan
    above = subst (Comes w.images (after_replace w.images (next_image w) old r (corner r hidden) (white (at_number w old).chan) keep) (next_image w) r) mine (replace_comes w.images (next_image w) old r (corner r hidden) (white (at_number w old).chan) keep)

    on : Comes w.images (after_replace_on w.images (next_image w) old (image_of w.book s) (fill_of w.book s) r (corner r hidden) (white (at_number w (image_of w.book s)).chan) keep) (next_image w) r chan
    on =
        subst (Comes w.images (after_replace_on w.images (next_image w) old (image_of w.book s) (fill_of w.book s) r (corner r hidden) (white (at_number w (image_of w.book s)).chan) keep) (next_image w) r) others
        (replace_on_comes w.images (next_image w) old (image_of w.book s) (fill_of w.book s) r (corner r hidden) (white (at_number w (image_of w.book s)).chan) keep)

    by : (b : Bool) → stands_on w.book old s ≡ b → Comes w.images (next_white w old s r keep hidden) (next_image w) r chan
    by true is = rw is above
    by false is = rw is on

bordered_comes : (w new : Images) (i : ℕ) (r : Rect) (chan : ℕ) (keep : Bool) → Comes w new i r chan → Comes w (if keep then new else bordered new i) i r chan
bordered_comes w new i r chan true comes = comes
bordered_comes w new i r chan false comes = comes_then w new (bordered new i) i r chan comes (border_same new i)

-- what is freed leaves an image that nothing uses
beside_stays : (w : World) (freed : Freed) (i : ℕ) → IsOut w.numbers i → has_gone freed (Image i) ≡ false
    → IsOut (after_freed w freed).numbers i × ((at_number (after_freed w freed) i).r ≡ (at_number w i).r) × ((at_number (after_freed w freed) i).chan ≡ (at_number w i).chan)
beside_stays w freed i out here =
    let left : World = with_book w freed.book in
    let frame = gone-frames freed.gone left i here in
    (gone-out freed.gone left i out here, frame.r, frame.chan)

pub replace_follows : (w : World) (window host : ℕ) (r old : Rect) (name : List ℕ) (keep hidden : Bool) → IsOrderly w → is_window_rect r ≡ true → ShowsWindow w window old → ShowsRio w host
    → Follows (only window) none w (replace_window w window host r name keep hidden) × ShowsWindow (replace_window w window host r name keep hidden) window r
unfolding replace_window
replace_follows w window host r old name keep hidden o may shows rio =
    let s = rio_screen w host in
    let i = next_image w in
    let new : Images = next_white w (image_shown w window) s r keep hidden in
    let images : Images = if keep then new else bordered new i in
    let comes : Comes w.images images i r w.opening.chan =
    bordered_comes w.images new i r w.opening.chan keep (next_comes w (image_shown w window) s r keep hidden w.opening.chan (window_chan w window old shows) (rio_chan w host rio)) in
    let taken : World = with_made w images w.book in
    let one : Follows none none w taken = taken_follows w images o comes.others in
    let freeing = free_id-there w.book window shows.id shows.counted shows.found in
    let freed = freeing.0 in
    let left : World = after_freed taken freed in
    let two : Follows (only window) none taken left = window_freed taken window freed one.orderly shows.counted freeing.1 in
    let beside = beside_stays taken freed i (next_out w.numbers o.numbers) (freed_beside taken freed i (free_id-frees w.book manager window freed o.screens freeing.1) (next_unused w o)) in
    let book_is : left.book ≡ freed.book = gone-book freed.gone (with_book taken freed.book) in
    let unknown : image_id left.book manager window ≡ None = ap (λ (b : Book). image_id b manager window) book_is ∙ window_unknown w.book window freed shows.counted freeing.1 in
    let still : screen_id left.book manager host ≡ Some rio.id = ap (λ (b : Book). screen_id b manager host) book_is ∙ ap (λ (ids : List ScreenId). find (λ x. (x.client == manager) && (x.id == host)) ids) (free_id-screen_ids w.book manager window freed freeing.1) ∙ rio.found in
    let there : is_some (screen_numbered left.book s) ≡ true =
    ap (λ (n : ℕ). is_some (screen_numbered left.book n)) (screen_is w host rio.id rio.found) ∙ two.orderly.screens rio.id.screen (screen_used left.book manager host rio.id still) in
    let opening_is : left.opening ≡ w.opening = gone-opening freed.gone (with_book taken freed.book) in
    let three = window_follows left window i s r name two.orderly beside.0 shows.counted may unknown there (beside.1 ∙ comes.place) (beside.2 ∙ comes.channels ∙ ap (λ o. o.chan) (sym opening_is)) in
    let all : Follows (only window) none w (with_window left window i s name) =
    follows_then (only window) none w taken (with_window left window i s name) (follows_but (only window) none w taken one) (follows_then (only window) none taken left (with_window left window i s name) two three.0) in
    let is : with_window left window i s name ≡ with_window (after_freed taken (image_freed w.book window)) window i s name =
    ap (λ (o : Outcome Freed). with_window (after_freed taken (result_unwrap_or o (nothing_freed w.book))) window i s name) (sym freeing.1) in
    (subst (Follows (only window) none w) is all, subst (λ (x : World). ShowsWindow x window r) is three.1)

-- ---- a window goes

-- the screen of the rio in it, where there is one
pub screen_closed : (w : World) (window : ℕ) → IsOrderly w → Follows none (only window) w (after_freed w (screen_freed w.book window))
screen_closed w window o = by (free_screen w.book manager window) refl
  where
    by : (f : Outcome Freed) → free_screen w.book manager window ≡ f → Follows none (only window) w (after_freed w (result_unwrap_or f (nothing_freed w.book)))
    by (Ok freed) e = free_screen_follows (only window) w manager window freed o e (λ host at. at)
    by (Err n) e = follows_itself none (only window) w o

pub drop_follows : (w : World) (window : ℕ) (r : Rect) → IsOrderly w → ShowsWindow w window r → Follows (only window) (only window) w (drop_window w window)
unfolding drop_window
drop_follows w window r o shows =
    let left : World = place_window w window outside in
    let one : Follows none none w left = place_follows w window outside o in
    let closed : World = after_freed left (screen_freed left.book window) in
    let two : Follows none (only window) left closed = screen_closed left window one.orderly in
    let now = two.windows window r refl (one.windows window r refl shows) in
    let freeing = free_id-there closed.book window now.id now.counted now.found in
    let three : Follows (only window) none closed (after_freed closed freeing.0) = window_freed closed window freeing.0 two.orderly now.counted freeing.1 in
    let is : after_freed closed freeing.0 ≡ after_freed closed (image_freed closed.book window) = ap (λ (o : Outcome Freed). after_freed closed (result_unwrap_or o (nothing_freed closed.book))) (sym freeing.1) in
    subst (Follows (only window) (only window) w) is
    (record {
      orderly = three.orderly;
      windows = λ serial q at s. three.windows serial q at (two.windows serial q refl (one.windows serial q refl s));
      rios = λ host at s. three.rios host refl (two.rios host at (one.rios host refl s));
      fresh = λ serial at free. three.fresh serial at (two.fresh serial refl (one.fresh serial refl free));
    })

-- ---- a rio in a window

filled_same : (images : Images) (i : ℕ) (r : Rect) (raw : ℕ) (fill : Bool) → AllSame images (if fill then after_fill images i r raw else images)
filled_same images i r raw true = fill_same images i r raw
filled_same images i r raw false = λ n. itself (image_at images n)

not_there : (book : Book) (window n : ℕ) → free_screen book manager window ≡ Err n → screen_id book manager window ≡ None
unfolding free_screen
not_there book window n e = by (screen_id book manager window) e
  where
    by : (o : Option ScreenId) → (value_or_refuse o 5 >>= λ e. Ok (freed_screen_id (nothing_freed book) e)) ≡ Err n → o ≡ None
    by None e = refl
    by (Some x) e = absurd (let f : ◌≡◌ {A = Outcome Freed} (Ok (freed_screen_id (nothing_freed book) x)) (Err n) = e in cc)

-- once its screen is closed a window has none
pub screen_unknown : (w : World) (window : ℕ) → screen_id (after_freed w (screen_freed w.book window)).book manager window ≡ None
screen_unknown w window = by (free_screen w.book manager window) refl
  where
    by : (f : Outcome Freed) → free_screen w.book manager window ≡ f → screen_id (after_freed w (result_unwrap_or f (nothing_freed w.book))).book manager window ≡ None
    by (Ok freed) e = ap (λ (b : Book). screen_id b manager window) (gone-book freed.gone (with_book w freed.book)) ∙ free_screen-unknown w.book window freed e
    by (Err n) e = not_there w.book window n e

-- and its image is as before
pub image_still : (w : World) (window : ℕ) → image_id (after_freed w (screen_freed w.book window)).book manager window ≡ image_id w.book manager window
image_still w window = by (free_screen w.book manager window) refl
  where
    by : (f : Outcome Freed) → free_screen w.book manager window ≡ f → image_id (after_freed w (result_unwrap_or f (nothing_freed w.book))).book manager window ≡ image_id w.book manager window
    by (Ok freed) e =
        ap (λ (b : Book). image_id b manager window) (gone-book freed.gone (with_book w freed.book))
        ∙ ap (λ (ids : List ImageId). find (λ x. (x.client == owner manager window) && (x.id == window)) ids) (free_screen-image_ids w.book manager window freed e)
    by (Err n) e = refl

pub free_screens : (book : Book) (window image fill : ℕ) → screen_id book manager window ≡ None → (made : Book) × (new_screen book manager window false image fill ≡ Ok made)
unfolding new_screen
free_screens book window image fill free = by (new_screen book manager window false image fill) refl (ap (λ (o : Option ScreenId). refuse_if (is_some o || false) 7) free)
  where
    by : (o : Outcome Book) → new_screen book manager window false image fill ≡ o → refuse_if (is_some (screen_id book manager window) || false) 7 ≡ Ok tt → (made : Book) × (o ≡ Ok made)
    by (Ok made) e ok = (made, refl)
    by (Err n) e ok = absurd (refused (refuse_if (is_some (screen_id book manager window) || false) 7) _ n e ok)

pub host_follows : (w : World) (window : ℕ) (r : Rect) (fill : Bool) → IsOrderly w → ShowsWindow w window r → ShowsRio w 0 → Follows none (only window) w (host_rio w window fill) × ShowsRio (host_rio w window fill) window
unfolding host_rio
host_follows w window r fill o shows root =
    let i = image_shown w window in
    let image = at_number w i in
    let grey = pack image.chan (colour_of 0x777777ff) in
    let filled : Images = if fill then after_fill w.images i (inside_border image.r) grey else w.images in
    let drawn : World = with_images w filled in
    let one : Follows none none w drawn = images_follow w filled (all_framed w.images filled (filled_same w.images i (inside_border image.r) grey fill)) o in
    let left : World = after_freed drawn (screen_freed w.book window) in
    let two : Follows none (only window) drawn left = screen_closed drawn window one.orderly in
    let now = two.windows window r refl (one.windows window r refl shows) in
    let apart : (0 == window) ≡ false = turned 0 window ∙ shows.counted in
    let base = two.rios 0 apart (one.rios 0 refl root) in
    let same : now.id ≡ shows.id = same_Some now.id shows.id (sym now.found ∙ image_still drawn window ∙ shows.found) in
    let at : now.id.image ≡ i = ap (λ (e : ImageId). e.image) same ∙ sym (shown_is w window shows.id shows.found) in
    let root_fill = fill_of left.book (rio_screen left 0) in
    let filling : root_fill ≡ base.screen.fill =
    ap (fill_of left.book) (screen_is left 0 base.id base.found) ∙ ap (λ (o : Option Filled). option_map_or (λ (x : Filled). x.fill) o 0) base.numbered in
    let used : is_used left.book (Image i) ≡ true = ap (λ (n : ℕ). is_used left.book (Image n)) (sym at) ∙ shown_used left.book manager window now.id now.found in
    let filler : is_used left.book (Image root_fill) ≡ true = ap (λ (n : ℕ). is_used left.book (Image n)) filling ∙ fill_used left.book base.id.screen base.screen base.numbered in
    let making = free_screens left.book window i root_fill (screen_unknown drawn window) in
    let three : Follows none (only window) left (with_book left making.0) =
    screened_follows (only window) left manager window false i root_fill making.0 two.orderly used filler making.1 (λ host at. turned window host ∙ at) in
    let found = screened_found left.book making.0 window i root_fill two.orderly.spare (screen_unknown drawn window) making.1 in
    let shown : ShowsRio (with_book left making.0) window = record {
      id = record { client = manager; id = window; screen = next_screen left.book; public = false };
      found = found.0;
      screen = record { image = i; fill = root_fill };
      numbered = found.1;
      chan = ap (λ (n : ℕ). (at_number left n).chan) (sym at) ∙ now.chan;
    } in
    let is : with_book left making.0 ≡ with_book left (result_unwrap_or (new_screen left.book manager window false i root_fill) left.book) = ap (λ (o : Outcome Book). with_book left (result_unwrap_or o left.book)) (sym making.1) in (
      subst (Follows none (only window) w) is
          (follows_then none (only window) w drawn (with_book left making.0) (follows_but none (only window) w drawn one) (follows_then none (only window) drawn left (with_book left making.0) two three)),
      subst (λ (x : World). ShowsRio x window) is shown,
    )
