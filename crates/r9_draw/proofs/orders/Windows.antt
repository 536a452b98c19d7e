-- A window that comes, and what it gets in place of its image.
use Rattle.std.proofs.Common.{◌≡◌, ℕ, Bool, true, false, ℤ, pos, neg_ℤ, ◌≤ℤ◌, ◌-ℤ◌, ◌+◌, ◌≤◌, int_lt, List, Option, Some, None, Result, Ok, Err, OnOk, refl, sym, ap, subst, ◌∙◌, arith}
use Rattle.std.specs.Prelude.{◌&&◌, ◌||◌, ◌==◌, ◌^◌, not, is_some, if◌then◌else◌}
use Rattle.std.specs.Ordering.{int_eq}
use Rattle.std.specs.List.{list_any}
use Rattle.std.specs.Option.{option_map_or}
use Rattle.std.proofs.lemmas.Bool.{eqb-true}
use Rattle.std.proofs.lemmas.Bool.Decides.{nat_tests}
use Rattle.std.proofs.lemmas.Int.{ints}
use Rattle.r9_event.specs.declared.event.rio.Order.{Order}
use Rattle.r9_event.specs.declared.event.rio.Order.TheVariants.{Replace}
use Rattle.model_draw.specs.cost.Cost.{order_cost}
use Rattle.r9_geom.specs.declared.Rect.{Rect}
use Rattle.r9_geom.specs.Geometry.{HasPoints, IsRectNearBy, at_min, is_empty}
use Rattle.model_forest.specs.World.{SameSize, World as Images, image_at}
use Rattle.model_forest.specs.Steps.{after_replace, after_replace_on, outside}
use Rattle.model_draw_parts.specs.declared.images.Thing.TheVariants.{Screen}
use Rattle.model_draw_parts.specs.declared.images.ScreenId.{ScreenId}
use Rattle.model_draw_parts.specs.images.Book.{fill_of, image_of, screen_id, screen_of}
use Rattle.model_draw_parts.specs.images.Release.{is_used}
use Rattle.model_draw.specs.draw.World.{World, after_freed, at_number, next_image, with_book}
use Rattle.model_draw.specs.draw.Making.{farthest, is_near, is_near_rect, with_made}
use Rattle.model_draw.specs.draw.Orders.{after_order, bordered, can_keep, corner, fits, has_rio, has_window, image_freed, image_shown, inside_border, is_window_rect, stands_on, white, with_window, next_white, ordered, replace_window, rio_screen, with_window_name}
use Rattle.r9_draw.specs.declared.orders.next.Next.{Next}
use Rattle.r9_device.specs.device.Kept.{IsKept}
use Rattle.r9_draw.specs.orders.Ordering.{CanReplace, IsNext, images_replaced, is_used_by_id, renewed}
use Rattle.r9_draw.proofs.orders.Fitting.{window-lives, window-rect-near, window-rect-points}
use Rattle.r9_draw.proofs.orders.Hosting.{all-passed, window-parent}
use Rattle.r9_device.proofs.device.Lookups.{fill-of-used, find-any, image-of-used}

-- ---- rectangles

left-of : (a b : Bool) → (a && b) ≡ true → a ≡ true
left-of true b h = refl
left-of false b h = absurd cc

at_least : (x y : ℤ) → not (int_lt x y) ≡ true → y ≤ℤ x
at_least x y h = grind (arith, ints)

last-of : (a b : Bool) → (a && b) ≡ true → b ≡ true
last-of true b h = h
last-of false b h = absurd cc

close : (x : ℤ) → is_near farthest x ≡ true → (neg_ℤ (pos (2 ^ 29)) ≤ℤ x) × (x ≤ℤ pos (2 ^ 29))
close x h = (
  at_least x (neg_ℤ (pos (2 ^ 29))) (left-of (not (int_lt x (neg_ℤ (pos (2 ^ 29))))) (not (int_lt (pos (2 ^ 29)) x)) h),
  at_least (pos (2 ^ 29)) x (last-of (not (int_lt x (neg_ℤ (pos (2 ^ 29))))) (not (int_lt (pos (2 ^ 29)) x)) h),
)

-- each coordinate of a window's rectangle is close to 0
record IsClose (r : Rect) : Type 0 where
  left : (neg_ℤ (pos (2 ^ 29)) ≤ℤ r.min.x) × (r.min.x ≤ℤ pos (2 ^ 29))
  top : (neg_ℤ (pos (2 ^ 29)) ≤ℤ r.min.y) × (r.min.y ≤ℤ pos (2 ^ 29))
  right : (neg_ℤ (pos (2 ^ 29)) ≤ℤ r.max.x) × (r.max.x ≤ℤ pos (2 ^ 29))
  bottom : (neg_ℤ (pos (2 ^ 29)) ≤ℤ r.max.y) × (r.max.y ≤ℤ pos (2 ^ 29))

window-rect-close : (r : Rect) → is_window_rect r ≡ true → IsClose r
window-rect-close r h =
    let near = left-of (is_near_rect farthest r) (not (is_empty (inside_border r))) h in
    let abc = left-of (is_near farthest r.min.x && is_near farthest r.min.y && is_near farthest r.max.x) (is_near farthest r.max.y) near in
    let ab = left-of (is_near farthest r.min.x && is_near farthest r.min.y) (is_near farthest r.max.x) abc in
    record {
      left = close r.min.x (left-of (is_near farthest r.min.x) (is_near farthest r.min.y) ab);
      top = close r.min.y (last-of (is_near farthest r.min.x) (is_near farthest r.min.y) ab);
      right = close r.max.x (last-of (is_near farthest r.min.x && is_near farthest r.min.y) (is_near farthest r.max.x) abc);
      bottom = close r.max.y (last-of (is_near farthest r.min.x && is_near farthest r.min.y && is_near farthest r.max.x) (is_near farthest r.max.y) near);
    }

-- it stays near far outside
pub outside-near : (r : Rect) → is_window_rect r ≡ true → IsRectNearBy (2 ^ 32) (at_min r outside)
outside-near r h =
    let c = window-rect-close r h in
    let a = c.left.0 in
    let b = c.left.1 in
    let d = c.top.0 in
    let e = c.top.1 in
    let f = c.right.0 in
    let g = c.right.1 in
    let k = c.bottom.0 in
    let l = c.bottom.1 in
    record {
      min = record { left = omega (arith, ints); right = omega (arith, ints); top = omega (arith, ints); bottom = omega (arith, ints) };
      max = record { left = omega (arith, ints); right = omega (arith, ints); top = omega (arith, ints); bottom = omega (arith, ints) };
    }

pub outside-points : (r : Rect) → is_window_rect r ≡ true → HasPoints (at_min r outside)
outside-points r h =
    let points = window-rect-points r h in
    let across = points.across in
    let down = points.down in
    record { across = omega (arith, ints); down = omega (arith, ints) }

-- and where it comes back from there
pub back-near : (r placed : Rect) → is_window_rect r ≡ true → placed ≡ at_min r outside → IsRectNearBy (2 ^ 32) (at_min placed r.min)
back-near r placed h e =
    let c = window-rect-close r h in
    let a = c.left.0 in
    let b = c.left.1 in
    let d = c.top.0 in
    let i = c.top.1 in
    let f = c.right.0 in
    let g = c.right.1 in
    let k = c.bottom.0 in
    let l = c.bottom.1 in
    let back : IsRectNearBy (2 ^ 32) (at_min (at_min r outside) r.min) = record {
      min = record { left = omega (arith, ints); right = omega (arith, ints); top = omega (arith, ints); bottom = omega (arith, ints) };
      max = record { left = omega (arith, ints); right = omega (arith, ints); top = omega (arith, ints); bottom = omega (arith, ints) };
    } in
    subst (λ (s : Rect). IsRectNearBy (2 ^ 32) (at_min s r.min)) (sym e) back

-- ---- what comes in place of an image

equal : (a b : ℤ) → int_eq a b ≡ true → a ≡ b
equal a b h = grind (arith, ints)

split : (a b : Bool) → (a && b) ≡ true → (a ≡ true) × (b ≡ true)
split true true h = (refl, refl)
split true false h = absurd cc
split false b h = absurd cc

pub kept-size : (w : World) (window s : ℕ) (r : Rect) → can_keep w window s r ≡ true → SameSize r (at_number w (image_shown w window)).r
kept-size w window s r h =
    let old = at_number w (image_shown w window) in
    let sizes = split (int_eq (r.max.x -ℤ r.min.x) (old.r.max.x -ℤ old.r.min.x) && int_eq (r.max.y -ℤ r.min.y) (old.r.max.y -ℤ old.r.min.y)) (old.chan == (at_number w (image_of w.book s)).chan) h in
    let both = split (int_eq (r.max.x -ℤ r.min.x) (old.r.max.x -ℤ old.r.min.x)) (int_eq (r.max.y -ℤ r.min.y) (old.r.max.y -ℤ old.r.min.y)) sizes.0 in
    record { width = equal _ _ both.0; height = equal _ _ both.1 }

pub kept-chan : (w : World) (window s : ℕ) (r : Rect) → can_keep w window s r ≡ true → (at_number w (image_of w.book s)).chan ≡ (at_number w (image_shown w window)).chan
kept-chan w window s r h =
    let old = at_number w (image_shown w window) in
    let sizes = split (int_eq (r.max.x -ℤ r.min.x) (old.r.max.x -ℤ old.r.min.x) && int_eq (r.max.y -ℤ r.min.y) (old.r.max.y -ℤ old.r.min.y)) (old.chan == (at_number w (image_of w.book s)).chan) h in
    sym (eqb-true old.chan (at_number w (image_of w.book s)).chan sizes.1)

pub can-replace : (w : World) (window s : ℕ) (r : Rect) (keep : Bool) (next : Next) → IsKept w.images w.book → has_window w window ≡ true → is_used w.book (Screen s) ≡ true → is_window_rect r ≡ true
    → (keep ≡ true → can_keep w window s r ≡ true) → IsNext w window s next → next.r ≡ r → next.keep ≡ keep → CanReplace w.images next
can-replace w window s r keep next kept has used rect keeps is same_rect same_keep =
    let there = kept.screens s used in
    let kept_of : next.keep ≡ true → can_keep w window s r ≡ true = λ h. keeps (sym same_keep ∙ h) in
    record {
      old = ap (λ n. is_some (w.images n)) is.old ∙ window-lives w window kept has;
      window = window-parent w window next.old.0 kept has is.old;
      parent = ap (λ n. is_some (w.images n)) is.parent ∙ kept.live _ (image-of-used w.book s there);
      fill = ap (λ n. is_some (w.images n)) is.fill ∙ kept.live _ (fill-of-used w.book s there);
      points = subst HasPoints (sym same_rect) (window-rect-points r rect);
      near = subst (IsRectNearBy (2 ^ 32)) (sym same_rect) (window-rect-near r rect);
      size = λ h. (let P : Rect → ℕ → Type 0 = λ a n. SameSize a (image_at w.images n).r in subst (λ (a : Rect). P a next.old.0) (sym same_rect) (subst (P r) (sym is.old) (kept-size w window s r (kept_of h))));
      chan = λ h. ap (λ n. (image_at w.images n).chan) is.parent ∙ kept-chan w window s r (kept_of h) ∙ sym (ap (λ n. (image_at w.images n).chan) is.old);
    }

-- ---- the window with its new image

same-next : (w : World) (window s : ℕ) (next : Next) → IsNext w window s next → images_replaced w.images (next_image w) next ≡ next_white w (image_shown w window) s next.r next.keep next.hidden
same-next w window s next is =
    (λ j. if next.above then
    after_replace w.images i (is.old j) next.r (corner next.r next.hidden) (white (image_at w.images (is.old j)).chan) next.keep
    else
    after_replace_on w.images i (is.old j) (is.parent j) (is.fill j) next.r (corner next.r next.hidden) (white (image_at w.images (is.parent j)).chan) next.keep)
    ∙ by next.above (sym is.above)
  where
    i : ℕ
    i = next_image w

    old : ℕ
    old = image_shown w window

    by : (b : Bool) → stands_on w.book old s ≡ b
        → (if b then after_replace w.images i old next.r (corner next.r next.hidden) (white (image_at w.images old).chan) next.keep
        else after_replace_on w.images i old (image_of w.book s) (fill_of w.book s) next.r (corner next.r next.hidden) (white (image_at w.images (image_of w.book s)).chan) next.keep)
        ≡ next_white w old s next.r next.keep next.hidden
    by true e = rw e refl
    by false e = rw e refl

pub replaced-window : (w one two : World) (window host s : ℕ) (next : Next) (name : List ℕ) → s ≡ rio_screen w host → IsNext w window (rio_screen w host) next
    → one ≡ renewed w window s next → two ≡ with_book one (with_window_name one.book window name) → two ≡ replace_window w window host next.r name next.keep next.hidden
unfolding renewed replace_window
replaced-window w one two window host s next name at is first second =
    let i = next_image w in
    let same = same-next w window (rio_screen w host) next is in
    let left : Images → World = λ images. after_freed (with_made w (if next.keep then images else bordered images i) w.book) (image_freed w.book window) in
    let whole : Images → ℕ → World = λ images n. with_window (left images) window i n name in
    second ∙ ap (λ (v : World). with_book v (with_window_name v.book window name)) first ∙ (λ j. whole (same j) (at j))

pub replaced-ok : {A E : Type 0} (o : Result A E) (w one two : World) (window host s : ℕ) (next : Next) (name : List ℕ) → s ≡ rio_screen w host → IsNext w window (rio_screen w host) next
    → one ≡ renewed w window s next → OnOk o (two ≡ with_book one (with_window_name one.book window name)) → OnOk o (two ≡ replace_window w window host next.r name next.keep next.hidden)
replaced-ok (Ok x) w one two window host s next name at is first second = replaced-window w one two window host s next name at is first second
replaced-ok (Err x) w one two window host s next name at is first second = tt

-- the id of a rio has its screen
pub rio-by-id : (w : World) (host : ℕ) → has_rio w host ≡ true → is_used_by_id w.book (rio_screen w host) ≡ true
rio-by-id w host h = by (screen_id w.book 0 host) refl h
  where
    by : (o : Option ScreenId) → screen_id w.book 0 host ≡ o → is_some o ≡ true → list_any (λ y. y.screen == option_map_or (λ e. e.screen) o 0) w.book.screen_ids ≡ true
    by (Some x) e h = find-any _ (λ y. y.screen == x.screen) w.book.screen_ids x e (grind (arith, nat_tests))
    by None e h = absurd cc

-- ---- the order for it

-- what the order for another image wants
pub replace-fits : (w : World) (window host : ℕ) (r : Rect) (name : List ℕ) (keep hidden : Bool) → fits w (Replace window host r name keep hidden) ≡ true
    → (has_window w window ≡ true) × (has_rio w host ≡ true) × (is_window_rect r ≡ true) × ((not keep || can_keep w window (rio_screen w host) r) ≡ true)
replace-fits w window host r name keep hidden h = all-passed (has_window w window) (has_rio w host) (is_window_rect r) (not keep || can_keep w window (rio_screen w host) r) h

-- it does not fit where there is no such rio
pub fits-no-rio : (w : World) (window host : ℕ) (r : Rect) (name : List ℕ) (keep hidden : Bool) → has_rio w host ≡ false → fits w (Replace window host r name keep hidden) ≡ false
fits-no-rio w window host r name keep hidden h = by (has_window w window) (has_rio w host) h
  where
    by : (a b : Bool) → b ≡ false → (a && b && is_window_rect r && (not keep || can_keep w window (rio_screen w host) r)) ≡ false
    by true true h = absurd cc
    by true false h = refl
    by false b h = refl

-- where the window and the rio are there the rest is told by the rectangle
pub fits-rest : (w : World) (window host s : ℕ) (r : Rect) (name : List ℕ) (keep hidden b : Bool) → has_window w window ≡ true → has_rio w host ≡ true → s ≡ rio_screen w host
    → b ≡ (is_window_rect r && (not keep || can_keep w window s r)) → fits w (Replace window host r name keep hidden) ≡ b
fits-rest w window host s r name keep hidden b h k at is =
    (λ j. h j && k j && is_window_rect r && (not keep || can_keep w window (rio_screen w host) r)) ∙ sym (is ∙ ap (λ (n : ℕ). is_window_rect r && (not keep || can_keep w window n r)) at)

-- what the rectangle tells
pub come-tests : (a keep b : Bool) → (a && (not keep || b)) ≡ true → (a ≡ true) × (keep ≡ true → b ≡ true)
come-tests true true b h = (refl, λ k. h)
come-tests true false b h = (refl, λ k. absurd cc)
come-tests false keep b h = absurd cc

-- the next image, which goes where the window stands if it has the same screen
pub next-is : (w : World) (window s on : ℕ) (next : Next) → next.old.0 ≡ image_shown w window → screen_of w.book next.old.0 ≡ Some on → next.above ≡ (on == s) → next.parent.0 ≡ image_of w.book s → next.fill.0 ≡ fill_of w.book s
    → IsNext w window s next
next-is w window s on next old stands above parent fill = record {
  old = old;
  above = above ∙ sym (ap (λ (o : Option ℕ). option_map_or (λ t. t == s) o false) (ap (screen_of w.book) (sym old) ∙ stands));
  parent = parent;
  fill = fill;
}

-- an order that fits is carried out, and its cost counts; another changes nothing
pub ordered-where : {A E : Type 0} (o : Result A E) (w next : World) (order : Order) → fits w order ≡ true → OnOk o (next ≡ after_order w order) → OnOk o (next ≡ ordered w order)
ordered-where o w next order fit done = subst (λ (b : Bool). OnOk o (next ≡ (if b then after_order w order else w))) (sym fit) done

pub ordered-not : (w : World) (order : Order) → fits w order ≡ false → w ≡ ordered w order
ordered-not w order fit = ap (λ (b : Bool). if b then after_order w order else w) (sym fit)

pub cost-where : {A E : Type 0} (o : Result A E) (w : World) (order : Order) (before after : ℕ) → fits w order ≡ true → OnOk o (after ≤ before + order_cost w order)
    → OnOk o (after ≤ before + (if fits w order then order_cost w order else 0))
cost-where o w order before after fit within = subst (λ (b : Bool). OnOk o (after ≤ before + (if b then order_cost w order else 0))) (sym fit) within
