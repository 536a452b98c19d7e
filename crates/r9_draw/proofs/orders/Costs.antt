-- What the steps of the window manager's orders write is no more than they cost.
use Rattle.std.proofs.Common.{◌≡◌, ℕ, Bool, true, false, ℤ, ◌+ℤ◌, ◌-ℤ◌, ◌+◌, ◌*◌, ◌<◌, ◌≤◌, List, [], ◌∷◌, Option, Some, None, All, Result, Ok, Err, OnOk, IfOk, length, take, drop, get_or, refl, sym, ap, subst, ◌∙◌, arith}
use Rattle.std.specs.Prelude.{◌==◌, ◌&&◌, ◌||◌, IfSome, find, is_some, nat_lt, not, unwrap_or, if◌then◌else◌}
use Rattle.std.specs.List.{sum_by}
use Rattle.std.specs.Option.{option_map_or}
use Rattle.std.specs.Result.{result_unwrap_or}
use Rattle.std.proofs.lemmas.Bool.Decides.{nat_tests}
use Rattle.std.proofs.lemmas.Int.{ints}
use Rattle.std.proofs.lemmas.List.{drop_all, drop_more}
use Rattle.std.proofs.lemmas.List.Elements.{All-cons}
use Rattle.std.proofs.lemmas.List.Sums.{sum_by-cons, sum_by_more}
use Rattle.r9_geom.specs.declared.Point.{Point}
use Rattle.r9_geom.specs.declared.Rect.{Rect}
use Rattle.r9_geom.specs.declared.Parts.{Parts}
use Rattle.r9_geom.specs.Parts.{parts_with}
use Rattle.r9_geom.specs.Geometry.{area_of, at_min, holds, is_empty, natural, IsOrdered}
use Rattle.r9_region.specs.Region.{covers, how_many_hold}
use Rattle.r9_region.proofs.Counted.{areas_apart}
use Rattle.r9_region.proofs.Points.{covers_is, how_many-cons, one_if}
use Rattle.r9_locate.specs.declared.info.ImageNo.{ImageNo}
use Rattle.r9_event.specs.declared.event.rio.Order.{Order}
use Rattle.r9_event.specs.declared.event.rio.Order.TheVariants.{Host}
use Rattle.model_text.specs.text.Outcome.{Outcome}
use Rattle.model_kept.specs.Keeping.{place_among}
use Rattle.model_forest.specs.declared.Standing.{Standing}
use Rattle.model_forest.specs.declared.Window.{Window}
use Rattle.model_forest.specs.World.{Image, World as Images, image_at, no_image, no_rect, with_image}
use Rattle.model_forest.specs.Stack.{after_window, new_window, seen, uncovered, with_windows}
use Rattle.model_forest.specs.Steps.{after_origin, carried_rect, outside}
use Rattle.model_forest.proofs.Releasing.{changed-at, origin-at}
use Rattle.model_draw_parts.specs.declared.images.Thing.{Thing}
use Rattle.model_draw_parts.specs.images.Book.{Book, fill_of, image_of}
use Rattle.model_draw_parts.specs.images.Release.{Freed, free_id, free_screen, nothing_freed}
use Rattle.model_draw.specs.draw.World.{World, after_freed}
use Rattle.model_draw.specs.draw.Orders.{carried_out, fits, image_freed, image_shown, inside_border, on_border, ordered, place_window, rio_screen, screen_freed, stands_on}
use Rattle.model_draw.specs.cost.Cost.{border, dropping, going_all, moving, order_cost, orders_cost, rect_shown, replacing}
use Rattle.r9_device.specs.device.Gone.{CanRelease}
use Rattle.r9_device.specs.device.Kept.{IsKept}
use Rattle.r9_device.proofs.device.Adding.{live_apart}
use Rattle.r9_device.proofs.device.Costs.{going_all-same}
use Rattle.r9_device.proofs.device.Kept.{Grows}
use Rattle.r9_device.proofs.device.Rects.{empty-area}
use Rattle.r9_draw.specs.declared.orders.next.Next.{Next}
use Rattle.r9_draw.specs.orders.Ordering.{IsNext, StandsAt, renewing}
use Rattle.r9_draw.proofs.orders.Fitting.{window-lives}
use Rattle.r9_draw.proofs.orders.Hosting.{filled, host-window, inside-held}
use Rattle.r9_draw.proofs.orders.Ordered.{IsNew, fill-stays, new-window}

-- ---- the border of a window

if_some : (b : Bool) → nat_lt 0 (if b then 1 else 0) ≡ b
if_some true = refl
if_some false = refl

at_most : (b : Bool) (n : ℕ) → n ≡ (if b then 1 else 0) → n ≤ 1
at_most true n e = omega (arith, e)
at_most false n e = omega (arith, e)

-- what is inside is not on the border
beside : (a b : Bool) (n : ℕ) → n ≡ (if a && not b then 1 else 0) → one_if b + n ≤ 1
beside true true n e = omega (arith, e)
beside true false n e = omega (arith, e)
beside false true n e = omega (arith, e)
beside false false n e = omega (arith, e)

left-of : (a b : Bool) → (a && b) ≡ true → a ≡ true
left-of true b h = refl
left-of false b h = absurd cc

either : (a b c : Bool) → (a ≡ true → c ≡ true) → (b ≡ true → c ≡ true) → (a || b) ≡ true → c ≡ true
either true b c f g h = f refl
either false b c f g h = g h

-- rectangles that hold each point of the border once have its points
parts-within : (r : Rect) (parts : List Rect) → IsOrdered r → All (λ part. is_empty part ≡ false) parts → ((p : Point) → how_many_hold parts p ≡ (if on_border r p then 1 else 0)) → sum_by area_of parts ≤ border r
parts-within r parts ordered solid points = by (is_empty (inside_border r)) refl
  where
    inner : Rect
    inner = inside_border r

    within : (z : Point) → covers parts z ≡ true → holds r z ≡ true
    within z h = left-of (holds r z) (not (holds inner z)) (sym (covers_is parts z ∙ ap (nat_lt 0) (points z) ∙ if_some (on_border r z)) ∙ h)

    whole : (z : Point) → holds r z ≡ true → covers (r ∷ []) z ≡ true
    whole z h = ap (λ b. b || false) h

    all : sum_by area_of (r ∷ []) ≡ area_of r + 0
    all = sum_by-cons area_of r []

    by : (b : Bool) → is_empty inner ≡ b → sum_by area_of parts ≤ border r
    by true e =
        let fewer : sum_by area_of parts ≤ sum_by area_of (r ∷ []) = areas_apart r parts (r ∷ []) ordered solid (λ z. at_most (on_border r z) (how_many_hold parts z) (points z)) within (λ z h. whole z (within z h)) in
        let none : area_of inner ≡ 0 = empty-area inner e in
        omega (arith, fewer, none, all)
    by false e =
        let inside : (z : Point) → covers (inner ∷ parts) z ≡ true → holds r z ≡ true = λ z h. either (holds inner z) (covers parts z) (holds r z) (inside-held r z) (within z) h in
        let once : (z : Point) → how_many_hold (inner ∷ parts) z ≤ 1 = λ z. subst (λ (n : ℕ). n ≤ 1) (sym (how_many-cons inner parts z)) (beside (holds r z) (holds inner z) (how_many_hold parts z) (points z)) in
        let fewer : sum_by area_of (inner ∷ parts) ≤ sum_by area_of (r ∷ []) =
        areas_apart r (inner ∷ parts) (r ∷ []) ordered (All-cons (λ part. is_empty part ≡ false) inner parts e solid) once inside (λ z h. whole z (inside z h)) in
        let more : sum_by area_of (inner ∷ parts) ≡ area_of inner + sum_by area_of parts = sum_by-cons area_of inner parts in
        omega (arith, fewer, more, all)

pub border-within : (r s q : Rect) (parts : Parts) → IsOrdered r → s ≡ r → q ≡ inside_border s → All (λ part. is_empty part ≡ false) (take parts.count parts.part) → ((p : Point) → parts_with parts p ≡ (if holds s p && not (holds q p) then 1 else 0))
    → sum_by area_of (take parts.count parts.part) ≤ border r
border-within r s q parts ordered same is solid points =
    parts-within r (take parts.count parts.part) ordered solid
    (λ p. points p ∙ (λ j. if holds (same j) p && not (holds ((is ∙ ap inside_border same) j) p) then 1 else 0))

-- so many parts are filled, and one more
pub part-within : (parts : List Rect) (n : ℕ) (d : Rect) (before now more : ℕ) → n < length parts → now ≤ before + sum_by area_of (take n parts) → more ≤ now + area_of (get_or parts n d) → more ≤ before + sum_by area_of (take (n + 1) parts)
part-within parts n d before now more below within most = omega (arith, sum_by_more area_of parts n d below, within, most)

-- ---- a window that comes

same-far : (a b o : ℤ) → a -ℤ b +ℤ o -ℤ o ≡ a -ℤ b
same-far a b o = omega (arith, ints)

stays-put : (x o : ℤ) → x -ℤ o +ℤ o ≡ x
stays-put x o = omega (arith, ints)

comes-back : (a b o : ℤ) → a -ℤ b +ℤ o -ℤ o +ℤ b ≡ a
comes-back a b o = omega (arith, ints)

from-there : (o b : ℤ) → o -ℤ o +ℤ b ≡ b
from-there o b = omega (arith, ints)

-- it has its points wherever it stands
pub area-elsewhere : (r : Rect) (min : Point) → area_of (at_min r min) ≡ area_of r
area-elsewhere r min = λ j. natural (same-far r.max.x r.min.x min.x j) * natural (same-far r.max.y r.min.y min.y j)

-- a rectangle, carried from a point to there
pub carried-there : (r : Rect) (at : Point) → carried_rect r at at ≡ r
carried-there r at = λ j. record {
  min = record { x = stays-put r.min.x at.x j; y = stays-put r.min.y at.y j };
  max = record { x = stays-put r.max.x at.x j; y = stays-put r.max.y at.y j };
}

-- and back to its corner
carried-back : (r : Rect) → carried_rect (at_min r outside) outside r.min ≡ r
carried-back r = λ j. record {
  min = record { x = from-there outside.x r.min.x j; y = from-there outside.y r.min.y j };
  max = record { x = comes-back r.max.x r.min.x outside.x j; y = comes-back r.max.y r.min.y outside.y j };
}

pub hidden-back : (r own : Rect) → own ≡ at_min r outside → carried_rect own own.min r.min ≡ r
hidden-back r own e = ap (λ (s : Rect). carried_rect s s.min r.min) e ∙ carried-back r

pub hidden-stands : (images : Images) (i : ℕ) (r own place : Rect) → own ≡ place → place ≡ at_min r outside → StandsAt images i place → StandsAt images i (carried_rect own own.min outside)
hidden-stands images i r own place same at stands =
    subst (StandsAt images i) (at ∙ sym (carried-there (at_min r outside) outside) ∙ sym (ap (λ (s : Rect). carried_rect s s.min outside) (same ∙ at))) stands

relisted-place : (images : Images) (parent i : ℕ) (ws : List Window) → place_among (image_at (with_windows images parent ws) parent).windows i ≡ place_among ws i
relisted-place images parent i ws =
    ap (λ (o : Option Image). place_among (unwrap_or o no_image).windows i)
    (changed-at images parent (Some (record (image_at images parent) { windows = ws; canvas = seen (image_at images parent).r ws (uncovered images parent) })))

first-place : (i : ℕ) (r : Rect) (ws : List Window) → place_among (record { image = i; place = r } ∷ ws) i ≡ r
first-place i r ws = by (i == i) (grind (arith, nat_tests))
  where
    by : (b : Bool) → b ≡ true → option_map_or (λ (w : Window). w.place) (if b then Some (record { image = i; place = r }) else find (λ w. w.image == i) ws) no_rect ≡ r
    by true e = refl
    by false e = absurd cc

window-stands : (images : Images) (i parent fill : ℕ) (r : Rect) (raw : ℕ) → images i ≡ None → is_some (images parent) ≡ true → StandsAt (after_window images i parent fill r raw) i r
unfolding after_window
window-stands images i parent fill r raw free live =
    let next : Images = after_window images i parent fill r raw in
    let put : Images = with_image images i (Some (new_window images parent fill r raw)) in
    let ws : List Window = (image_at images parent).windows in
    let new : IsNew images next i r (Some (record { parent = parent; fill = fill })) = new-window images i parent fill r raw free live in
    let P : Option Standing → Type 0 = λ o. IfSome o (λ s. place_among (image_at next s.parent).windows i ≡ r) in
    subst P (sym new.stands) (relisted-place put parent i (record { image = i; place = r } ∷ ws) ∙ first-place i r ws)

-- where the new image stands
pub white-placed : {E : Type 0} (o : Result ImageNo E) (images next : Images) (book : Book) (i s : ℕ) (r : Rect) (raw : ℕ) → is_some (images (image_of book s)) ≡ true → IfOk o (λ n. n.0 ≡ i)
    → OnOk o (images i ≡ None) → OnOk o (next ≡ after_window images i (image_of book s) (fill_of book s) r raw) → IfOk o (λ n. StandsAt next n.0 r)
white-placed (Ok n) images next book i s r raw live is free made =
    subst (λ (m : ℕ). StandsAt next m r) (sym is) (subst (λ (w : Images). StandsAt w i r) (sym made) (window-stands images i (image_of book s) (fill_of book s) r raw free live))
white-placed (Err x) images next book i s r raw live is free made = tt

pub hidden-rect : {A E : Type 0} (o : Result A E) (images next : Images) (i : ℕ) (min corner : Point) → OnOk o (next ≡ after_origin images i min corner)
    → OnOk o ((image_at next i).r ≡ carried_rect (image_at images i).r (image_at images i).r.min min)
hidden-rect (Ok x) images next i min corner moved =
    ap (λ (w : Images). (image_at w i).r) moved ∙ ap (λ (o : Option Image). (unwrap_or o no_image).r) (origin-at images i min corner)
hidden-rect (Err x) images next i min corner moved = tt

-- ---- what goes

-- what the id of a window, or the screen of a rio, leaves
pub window-gone : (images : Images) (book : Book) (window : ℕ) (freed : Freed) → free_id book 0 window ≡ Ok freed → going_all images (image_freed book window).gone ≡ going_all images freed.gone
window-gone images book window freed e = ap (λ (o : Outcome Freed). going_all images (result_unwrap_or o (nothing_freed book)).gone) e

pub rio-gone : (images : Images) (book : Book) (host : ℕ) (freed : Freed) → free_screen book 0 host ≡ Ok freed → going_all images (screen_freed book host).gone ≡ going_all images freed.gone
rio-gone images book host freed e = ap (λ (o : Outcome Freed). going_all images (result_unwrap_or o (nothing_freed book)).gone) e

-- step by step
pub dropped-within : {A E : Type 0} (o : Result A E) (w left closed : World) (window before first second last : ℕ) → left ≡ place_window w window outside → closed ≡ after_freed left (screen_freed left.book window)
    → first ≤ before + moving (rect_shown w window) → second ≤ first + going_all left.images (screen_freed left.book window).gone → OnOk o (last ≤ second + going_all closed.images (image_freed closed.book window).gone)
    → OnOk o (last ≤ before + dropping w window)
unfolding dropping
dropped-within (Ok x) w left closed window before first second last a b one two three =
    let rio : World → ℕ = λ v. going_all v.images (screen_freed v.book window).gone in
    let image : World → ℕ = λ v. going_all v.images (image_freed v.book window).gone in
    let of_rio : rio left ≡ rio (place_window w window outside) = ap rio a in
    let of_image : image closed ≡ image (after_freed (place_window w window outside) (screen_freed (place_window w window outside).book window)) = ap image (b ∙ ap (λ (v : World). after_freed v (screen_freed v.book window)) a) in
    omega (arith, of_rio, of_image, one, two, three)
dropped-within (Err x) w left closed window before first second last a b one two three = tt

-- the rio in a window
filled-costs : (w : World) (window : ℕ) (fill : Bool) (things : List Thing) → is_some (w.images (image_shown w window)) ≡ true → going_all (filled w window fill).images things ≡ going_all w.images things
filled-costs w window true things live = going_all-same w.images (filled w window true).images things (λ n h. (fill-stays w.images (image_shown w window) _ _ n live).frame)
filled-costs w window false things live = refl

pub fill-then : (w : World) (window : ℕ) (fill : Bool) (before now : ℕ) → fill ≡ true → now ≤ before + area_of (inside_border (rect_shown w window)) → now ≤ before + (if fill then area_of (inside_border (rect_shown w window)) else 0)
fill-then w window true before now h most = most
fill-then w window false before now h most = absurd cc

pub fill-else : (w : World) (window : ℕ) (fill : Bool) (before now : ℕ) → fill ≡ false → now ≡ before → now ≤ before + (if fill then area_of (inside_border (rect_shown w window)) else 0)
fill-else w window false before now h same = omega (arith, same)
fill-else w window true before now h same = absurd cc

pub hosted-within : {A E : Type 0} (o : Result A E) (w first : World) (window : ℕ) (fill : Bool) (before now last : ℕ) → IsKept w.images w.book → fits w (Host window fill) ≡ true → first ≡ filled w window fill
    → now ≤ before + (if fill then area_of (inside_border (rect_shown w window)) else 0) → last ≤ now + going_all first.images (screen_freed first.book window).gone → OnOk o (last ≤ before + order_cost w (Host window fill))
unfolding order_cost
hosted-within (Ok x) w first window fill before now last kept fit is one two =
    let gone : List Thing = (screen_freed w.book window).gone in
    let same : going_all first.images (screen_freed first.book window).gone ≡ going_all w.images gone =
    ap (λ (v : World). going_all v.images (screen_freed v.book window).gone) is ∙ filled-costs w window fill gone (window-lives w window kept (host-window w window fill fit)) in
    omega (arith, same, one, two)
hosted-within (Err x) w first window fill before now last kept fit is one two = tt

-- ---- a window that gets another image

-- what goes costs what it cost before the new image came
pub renewed-costs : (images next : Images) (book : Book) (i s : ℕ) (gone : List Thing) → Grows images next book i (Some s) → CanRelease images book gone → going_all next gone ≡ going_all images gone
renewed-costs images next book i s gone g can = going_all-same images next gone (λ n h. (g.others n (live_apart images n i (can.live n h) g.free)).frame)

-- the image, and its border where it does not keep what the other shows
pub bordered-within : (keep : Bool) (r own : Rect) (most before now more : ℕ) → keep ≡ false → own ≡ r → now ≤ before + most → more ≤ now + border own → more ≤ before + (most + (if keep then 0 else border r))
bordered-within false r own most before now more h same one two = (let of_border : border own ≡ border r = ap border same in omega (arith, of_border, one, two))
bordered-within true r own most before now more h same one two = absurd cc

pub replaced-within : {A E : Type 0} (o : Result A E) (w : World) (window host : ℕ) (next : Next) (before last : ℕ) → IsNext w window (rio_screen w host) next
    → last ≤ before + (renewing w.images next + going_all w.images (image_freed w.book window).gone) → OnOk o (last ≤ before + replacing w window host next.r next.keep)
unfolding replacing
replaced-within (Ok x) w window host next before last is most =
    let onto : (if next.above then 0 else area_of next.r) ≡ (if stands_on w.book (image_shown w window) (rio_screen w host) then 0 else area_of next.r) = ap (λ (b : Bool). if b then 0 else area_of next.r) is.above in
    let moves : moving (image_at w.images next.old.0).r ≡ moving (rect_shown w window) = ap (λ (n : ℕ). moving (image_at w.images n).r) is.old in
    omega (arith, onto, moves, most)
replaced-within (Err x) w window host next before last is most = tt

-- ---- one order after the other

next-cut : (slice orders : List Order) (n : ℕ) (d x : Order) → slice ≡ orders → n < length slice → x ≡ get_or slice n d → drop n orders ≡ x ∷ drop (n + 1) orders
next-cut slice orders n d x same below is =
    sym (ap (λ (xs : List Order). drop n xs) same) ∙ drop_more slice n d below ∙ (λ j. sym is j ∷ drop (n + 1) (same j))

pub one-done : (w after next : World) (slice orders : List Order) (n : ℕ) (d x : Order) → slice ≡ orders → n < length slice → x ≡ get_or slice n d → next ≡ ordered after x → carried_out after (drop n orders) ≡ carried_out w orders
    → carried_out next (drop (n + 1) orders) ≡ carried_out w orders
one-done w after next slice orders n d x same below is e done =
    ap (λ (v : World). carried_out v (drop (n + 1) orders)) e ∙ sym (ap (λ (xs : List Order). carried_out after xs) (next-cut slice orders n d x same below is)) ∙ done

pub one-within : (w after next : World) (slice orders : List Order) (n : ℕ) (d x : Order) (before now more : ℕ) → slice ≡ orders → n < length slice → x ≡ get_or slice n d → next ≡ ordered after x
    → now + orders_cost after (drop n orders) ≤ before + orders_cost w orders → more ≤ now + (if fits after x then order_cost after x else 0) → more + orders_cost next (drop (n + 1) orders) ≤ before + orders_cost w orders
one-within w after next slice orders n d x before now more same below is e within most =
    let first : orders_cost after (drop n orders) ≡ (if fits after x then order_cost after x else 0) + orders_cost (ordered after x) (drop (n + 1) orders) =
    ap (λ (xs : List Order). orders_cost after xs) (next-cut slice orders n d x same below is) in
    let rest : orders_cost next (drop (n + 1) orders) ≡ orders_cost (ordered after x) (drop (n + 1) orders) = ap (λ (v : World). orders_cost v (drop (n + 1) orders)) e in
    omega (arith, first, rest, within, most)

pub all-done : (w after : World) (slice orders : List Order) (n : ℕ) → slice ≡ orders → length slice ≤ n → carried_out after (drop n orders) ≡ carried_out w orders → after ≡ carried_out w orders
all-done w after slice orders n same end done =
    sym (ap (λ (xs : List Order). carried_out after xs) (sym (ap (λ (xs : List Order). drop n xs) same) ∙ drop_all n slice end)) ∙ done
