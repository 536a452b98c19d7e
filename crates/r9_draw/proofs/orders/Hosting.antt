-- The screen of a rio that goes, and the one that comes.
use Rattle.std.proofs.Common.{◌≡◌, ℕ, Bool, true, false, ℤ, pos, neg_ℤ, ◌+ℤ◌, ◌-ℤ◌, ◌≤ℤ◌, to_z, of_z, w64, List, [], ◌∷◌, Some, Result, Ok, Err, OnOk, OnErr, refl, sym, ap, ◌∙◌, arith, int_le, int_lt}
use Rattle.std.specs.Prelude.{◌==◌, ◌&&◌, ◌^◌, All, IsSome, find, is_some, not, if◌then◌else◌}
use Rattle.std.specs.Option.{option_map_or}
use Rattle.std.specs.Result.{result_unwrap_or}
use Rattle.std.specs.Ordering.{int_eq}
use Rattle.std.proofs.lemmas.Bool.Decides.{Decides-eqb, Decides-int_eq, Decides-like, same_from_decides}
use Rattle.std.proofs.lemmas.Int.{ints, to_z-of_z}
use Rattle.std.proofs.lemmas.List.Elements.{All-cons, All-nil}
use Rattle.r9_geom.specs.declared.Point.{Point}
use Rattle.r9_geom.specs.declared.Rect.{Rect}
use Rattle.r9_geom.specs.Geometry.{HasPoints, IsNearBy, IsRectNearBy, holds, is_empty}
use Rattle.r9_locate.specs.declared.info.ImageNo.{ImageNo}
use Rattle.r9_event.specs.declared.event.rio.Order.TheVariants.{Host}
use Rattle.model_text.specs.text.Outcome.{Outcome}
use Rattle.model_pixel.specs.Channels.{colour_of, pack}
use Rattle.model_forest.specs.Draw.{after_fill}
use Rattle.model_forest.specs.Numbers.{Numbers}
use Rattle.model_forest.specs.World.{World as Images, image_at, parent_of}
use Rattle.model_forest.specs.Steps.{after_origin, outside}
use Rattle.model_draw_parts.specs.declared.images.ImageId.{ImageId}
use Rattle.model_draw_parts.specs.images.Book.{Book, image_id, owner, screen_id, screen_of}
use Rattle.model_draw_parts.specs.images.Release.{Freed, free_screen, nothing_freed}
use Rattle.model_draw.specs.draw.World.{World, after_freed, at_number, with_book, with_images}
use Rattle.model_draw.specs.draw.Making.{farthest, is_near, is_near_rect}
use Rattle.model_draw.specs.draw.Orders.{drop_window, fits, has_rio, has_window, host_rio, image_freed, image_shown, inside_border, is_near_point, is_window_rect, place_window, screen_freed}
use Rattle.r9_device.specs.device.Kept.{IsKept}
use Rattle.r9_draw.specs.orders.Ordering.{with_rio}
use Rattle.r9_draw.proofs.orders.Fitting.{window-some, window-stands}
use Rattle.r9_device.proofs.device.Kept.{kept-same}
use Rattle.r9_draw.proofs.orders.Managed.{free_screen-image_ids, free_screen-root}
use Rattle.r9_draw.proofs.orders.Ordered.{kept-place}
use Rattle.r9_device.proofs.device.Raising.{stands}
use Rattle.r9_device.proofs.device.Rects.{near-of, point-wider, points-of}
use Rattle.r9_device.proofs.device.Worlds.{fold-things}

freed-book : (w : World) (f : Freed) → (after_freed w f).book ≡ f.book
freed-book w f = ap (λ (v : World). v.book) (fold-things f.gone (with_book w f.book))

-- what stays of the book where the screen of a rio goes, or where there is none
closed-part : {A : Type 0} (part : Book → A) (w : World) (host : ℕ) → ((f : Freed) → free_screen w.book 0 host ≡ Ok f → part f.book ≡ part w.book)
    → part (after_freed w (screen_freed w.book host)).book ≡ part w.book
closed-part part w host same = by (free_screen w.book 0 host) refl
  where
    by : (o : Outcome Freed) → free_screen w.book 0 host ≡ o → part (after_freed w (result_unwrap_or o (nothing_freed w.book))).book ≡ part w.book
    by (Ok f) e = ap part (freed-book w f) ∙ same f e
    by (Err n) e = refl

-- each window has its image
pub closed-shown : (w : World) (host window : ℕ) → image_shown (after_freed w (screen_freed w.book host)) window ≡ image_shown w window
closed-shown w host window =
    closed-part (λ (b : Book). option_map_or (λ e. e.image) (image_id b 0 window) 0) w host
    (λ f e. ap (λ (ids : List ImageId). option_map_or (λ (e : ImageId). e.image) (find (λ e. (e.client == owner 0 window) && (e.id == window)) ids) 0) (free_screen-image_ids w.book 0 host f e))

-- and the root rio its screen
pub closed-root : (w : World) (host : ℕ) → (host == 0) ≡ false → screen_id (after_freed w (screen_freed w.book host)).book 0 0 ≡ screen_id w.book 0 0
closed-root w host other = closed-part (λ (b : Book). screen_id b 0 0) w host (λ f e. free_screen-root w.book host f other e)

-- ---- step by step

pub dropped : {A E : Type 0} (o : Result A E) (w left closed last : World) (window : ℕ) → left ≡ place_window w window outside → closed ≡ after_freed left (screen_freed left.book window)
    → OnOk o (last ≡ after_freed closed (image_freed closed.book window)) → OnOk o (last ≡ drop_window w window)
unfolding drop_window
dropped (Ok x) w left closed last window a b e =
    e ∙ ap (λ (v : World). after_freed v (image_freed v.book window)) (b ∙ ap (λ (v : World). after_freed v (screen_freed v.book window)) a)
dropped (Err x) w left closed last window a b e = tt

-- the inside of a window, grey where it is filled
abbrev pub filled : World → (window : ℕ) → (fill : Bool) → World
filled w window fill =
    with_images w (if fill then after_fill w.images (image_shown w window) (inside_border (at_number w (image_shown w window)).r) (pack (at_number w (image_shown w window)).chan (colour_of 0x777777ff)) else w.images)

pub filled-then : (w next : World) (window : ℕ) (fill : Bool) → fill ≡ true
    → next ≡ with_images w (after_fill w.images (image_shown w window) (inside_border (at_number w (image_shown w window)).r) (pack (at_number w (image_shown w window)).chan (colour_of 0x777777ff))) → next ≡ filled w window fill
filled-then w next window true h e = e
filled-then w next window false h e = absurd cc

pub filled-else : (w next : World) (window : ℕ) (fill : Bool) → fill ≡ false → next ≡ w → next ≡ filled w window fill
filled-else w next window false h e = e
filled-else w next window true h e = absurd cc

pub hosted : {A E : Type 0} (o : Result A E) (w first left last : World) (window : ℕ) (fill : Bool) → first ≡ filled w window fill → left ≡ after_freed first (screen_freed first.book window)
    → OnOk o (last ≡ with_rio left window (image_shown left window)) → OnOk o (last ≡ host_rio w window fill)
unfolding host_rio
hosted (Ok x) w first left last window fill a b e =
    let closed : World = after_freed (filled w window fill) (screen_freed w.book window) in
    let is : left ≡ closed = b ∙ ap (λ (v : World). after_freed v (screen_freed v.book window)) a in
    let shown : image_shown left window ≡ image_shown w window = ap (λ (v : World). image_shown v window) is ∙ closed-shown (filled w window fill) window window in
    e ∙ (λ i. with_rio (is i) window (shown i))
hosted (Err x) w first left last window fill a b e = tt

-- what the order wants
host-tests : (a b c : Bool) → (a && b && c) ≡ true → (a ≡ true) × (b ≡ true) × (c ≡ true)
host-tests true true true h = (refl, refl, refl)
host-tests true true false h = absurd cc
host-tests true false c h = absurd cc
host-tests false b c h = absurd cc

pub host-window : (w : World) (window : ℕ) (fill : Bool) → fits w (Host window fill) ≡ true → has_window w window ≡ true
host-window w window fill h = (host-tests (has_window w window) (has_rio w 0) (is_window_rect (at_number w (image_shown w window)).r) h).0

pub host-rect : (w : World) (window : ℕ) (fill : Bool) → fits w (Host window fill) ≡ true → is_window_rect (at_number w (image_shown w window)).r ≡ true
host-rect w window fill h = (host-tests (has_window w window) (has_rio w 0) (is_window_rect (at_number w (image_shown w window)).r) h).2

-- the root rio has its screen still
pub host-root : (w first left : World) (window : ℕ) (fill : Bool) → fits w (Host window fill) ≡ true → first ≡ filled w window fill → left ≡ after_freed first (screen_freed first.book window) → has_rio left 0 ≡ true
host-root w first left window fill h a b =
    ap (λ (v : World). has_rio v 0) (b ∙ ap (λ (v : World). after_freed v (screen_freed v.book window)) a)
    ∙ ap is_some (closed-root (filled w window fill) window (window-some w window (host-window w window fill h)))
    ∙ (host-tests (has_window w window) (has_rio w 0) (is_window_rect (at_number w (image_shown w window)).r) h).1

-- what four tests say that are all passed
pub all-passed : (a b c d : Bool) → (a && b && c && d) ≡ true → (a ≡ true) × (b ≡ true) × (c ≡ true) × (d ≡ true)
all-passed true true true true h = (refl, refl, refl, refl)
all-passed true true true false h = absurd cc
all-passed true true false d h = absurd cc
all-passed true false c d h = absurd cc
all-passed false b c d h = absurd cc

-- ---- other images

-- a window stands on an image
pub window-parent : (w : World) (window i : ℕ) → IsKept w.images w.book → has_window w window ≡ true → i ≡ image_shown w window → IsSome (parent_of w.images i)
window-parent w window i kept h shown = stands w.images w.book i kept (ap (λ (n : ℕ). is_some (screen_of w.book n)) shown ∙ window-stands w window h)

pub window-group : (w : World) (window : ℕ) (i : ImageNo) → IsKept w.images w.book → has_window w window ≡ true → i.0 ≡ image_shown w window → All (λ n. IsSome (parent_of w.images n.0)) (i ∷ [])
window-group w window i kept h shown =
    let P : ImageNo → Type 0 = λ n. IsSome (parent_of w.images n.0) in All-cons P i [] (window-parent w window i.0 kept h shown) (All-nil P)

pub changed : {A E : Type 0} (o : Result A E) (w : World) (images before after : Images) (numbers : Numbers) → OnOk o (images ≡ before) → before ≡ after → numbers ≡ w.numbers
    → OnOk o (let next : World = record w { images = images; numbers = numbers } in next ≡ with_images w after)
changed (Ok x) w images before after numbers is same given = let all : images ≡ after = is ∙ same in λ j. let next : World = record w { images = all j; numbers = given j } in next
changed (Err x) w images before after numbers is same given = tt

pub kept-placed : {A E : Type 0} (o : Result A E) (images next : Images) (book : Book) (i : ℕ) (min corner : Point) → IsKept images book → is_some (images i) ≡ true → ((p : ℕ) → parent_of images i ≡ Some p → is_some (images p) ≡ true)
    → min ≡ (image_at images i).r.min → OnOk o (next ≡ after_origin images i min corner) → OnErr o (next ≡ images) → IsKept next book
kept-placed (Ok x) images next book i min corner kept live parents at moved err =
    kept-same _ next book (kept-place images book i corner kept live parents) (moved ∙ ap (λ (p : Point). after_origin images i p corner) at)
kept-placed (Err x) images next book i min corner kept live parents at moved err = kept-same images next book kept err

doubled : (a b : Bool) → (a && b) ≡ true → (a && b && a && b) ≡ true
doubled true true h = refl
doubled true false h = absurd cc
doubled false b h = absurd cc

pub corner-near : (p : Point) → is_near_point p ≡ true → IsNearBy (2 ^ 34) p
corner-near p h =
    let both : Rect = record { min = p; max = p } in
    let near = near-of both (doubled (is_near farthest p.x) (is_near farthest p.y) h) in
    point-wider (2 ^ 32) (2 ^ 34) p (omega arith) near.min

-- ---- the inside of a window

right-of : (a b : Bool) → (a && not b) ≡ true → b ≡ false
right-of true true h = absurd cc
right-of true false h = refl
right-of false b h = absurd cc

left-of : (a b : Bool) → (a && b) ≡ true → a ≡ true
left-of true b h = refl
left-of false b h = absurd cc

pub inside-points : (r : Rect) → is_window_rect r ≡ true → HasPoints (inside_border r)
inside-points r h = points-of (inside_border r) (right-of (is_near_rect farthest r) (is_empty (inside_border r)) h)

pub inside-near : (r : Rect) → IsRectNearBy (2 ^ 33) r → IsRectNearBy (2 ^ 34) (inside_border r)
inside-near r h =
    let low = h.min in
    let high = h.max in
    let a = low.left in
    let b = low.right in
    let c = low.top in
    let d = low.bottom in
    let e = high.left in
    let f = high.right in
    let g = high.top in
    let k = high.bottom in
    record {
      min = record { left = omega (arith, ints); right = omega (arith, ints); top = omega (arith, ints); bottom = omega (arith, ints) };
      max = record { left = omega (arith, ints); right = omega (arith, ints); top = omega (arith, ints); bottom = omega (arith, ints) };
    }

lower : (x y : ℤ) → int_le (x +ℤ pos 4) y ≡ true → int_le x y ≡ true
lower x y h = grind (arith, ints)

upper : (x y : ℤ) → int_lt y (x -ℤ pos 4) ≡ true → int_lt y x ≡ true
upper x y h = grind (arith, ints)

weaker : (a b c d : Bool) → (a ≡ true → c ≡ true) → (b ≡ true → d ≡ true) → (a && b) ≡ true → (c && d) ≡ true
weaker true true c d f g h = λ i. f refl i && g refl i
weaker true false c d f g h = absurd cc
weaker false b c d f g h = absurd cc

-- each point inside of the border is one of the window
pub inside-held : (r : Rect) (p : Point) → holds (inside_border r) p ≡ true → holds r p ≡ true
inside-held r p h =
    weaker _ _ _ _ (weaker _ _ _ _ (lower r.min.x p.x) (upper r.max.x p.x)) (weaker _ _ _ _ (lower r.min.y p.y) (upper r.max.y p.y)) h

-- ---- how wide and how high

there_and_back : (x : ℤ) → neg_ℤ (pos (2 ^ 34)) ≤ℤ x → x ≤ℤ pos (2 ^ 34) → to_z w64 (of_z w64 x) ≡ x
there_and_back x low high = grind (arith, to_z-of_z)

coordinate : (x : ℤ) → neg_ℤ (pos (2 ^ 33)) ≤ℤ x → x ≤ℤ pos (2 ^ 33) → to_z w64 (of_z w64 x) ≡ x
coordinate x low high = grind (arith, to_z-of_z)

pub distance-is : (low high d : ℤ) → neg_ℤ (pos (2 ^ 33)) ≤ℤ low → low ≤ℤ pos (2 ^ 33) → neg_ℤ (pos (2 ^ 33)) ≤ℤ high → high ≤ℤ pos (2 ^ 33)
    → d ≡ to_z w64 (of_z w64 high) -ℤ to_z w64 (of_z w64 low) → d ≡ high -ℤ low
distance-is low high d a b e f is = is ∙ (λ i. coordinate high e f i -ℤ coordinate low a b i)

-- signed numbers are one where they are written alike
pub alike : (x y : ℤ) → neg_ℤ (pos (2 ^ 34)) ≤ℤ x → x ≤ℤ pos (2 ^ 34) → neg_ℤ (pos (2 ^ 34)) ≤ℤ y → y ≤ℤ pos (2 ^ 34) → (of_z w64 x == of_z w64 y) ≡ int_eq x y
alike x y a b c d =
    let back : of_z w64 x ≡ of_z w64 y → x ≡ y = λ e. sym (there_and_back x a b) ∙ ap (λ (n : ℕ). to_z w64 n) e ∙ there_and_back y c d in
    let on : x ≡ y → of_z w64 x ≡ of_z w64 y = λ e. ap (λ (z : ℤ). of_z w64 z) e in
    same_from_decides (of_z w64 x == of_z w64 y) (int_eq x y) (Decides-like (of_z w64 x == of_z w64 y) back on (Decides-eqb (of_z w64 x) (of_z w64 y))) (Decides-int_eq x y)

pub width-alike : (r old : Rect) → IsRectNearBy (2 ^ 33) r → IsRectNearBy (2 ^ 33) old → (of_z w64 (r.max.x -ℤ r.min.x) == of_z w64 (old.max.x -ℤ old.min.x)) ≡ int_eq (r.max.x -ℤ r.min.x) (old.max.x -ℤ old.min.x)
width-alike r old h k =
    let a = h.min.left in
    let b = h.min.right in
    let c = h.max.left in
    let d = h.max.right in
    let e = k.min.left in
    let f = k.min.right in
    let g = k.max.left in
    let m = k.max.right in
    alike (r.max.x -ℤ r.min.x) (old.max.x -ℤ old.min.x) (omega (arith, ints)) (omega (arith, ints)) (omega (arith, ints)) (omega (arith, ints))

pub height-alike : (r old : Rect) → IsRectNearBy (2 ^ 33) r → IsRectNearBy (2 ^ 33) old → (of_z w64 (r.max.y -ℤ r.min.y) == of_z w64 (old.max.y -ℤ old.min.y)) ≡ int_eq (r.max.y -ℤ r.min.y) (old.max.y -ℤ old.min.y)
height-alike r old h k =
    let a = h.min.top in
    let b = h.min.bottom in
    let c = h.max.top in
    let d = h.max.bottom in
    let e = k.min.top in
    let f = k.min.bottom in
    let g = k.max.top in
    let m = k.max.bottom in
    alike (r.max.y -ℤ r.min.y) (old.max.y -ℤ old.min.y) (omega (arith, ints)) (omega (arith, ints)) (omega (arith, ints)) (omega (arith, ints))
