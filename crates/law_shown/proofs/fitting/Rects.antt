-- The rectangles of windows, where commands and moves of their hosts change them.
use Rattle.std.proofs.Common.{◌≡◌, Bool, true, false, ℤ, pos, neg_ℤ, ◌+ℤ◌, ◌-ℤ◌, ◌≤ℤ◌, ◌<ℤ◌, int_le, int_lt, List, [], ◌∷◌, fold, Some, None, All, refl, subst, arith}
use Rattle.std.specs.Prelude.{◌^◌, ◌&&◌, not, if◌then◌else◌}
use Rattle.std.proofs.lemmas.Int.{ints}
use Rattle.std.proofs.lemmas.List.Elements.{All-head, All-tail}
use Rattle.r9_geom.specs.declared.Rect.{Rect}
use Rattle.r9_geom.specs.declared.Point.{Point}
use Rattle.r9_geom.specs.Geometry.{shifted}
use Rattle.model_files.specs.declared.wctl.Choice.{Choice}
use Rattle.model_files.specs.declared.wctl.Choice.TheVariants.{R, Minx, Miny, Maxx, Maxy, Dx, Dy}
use Rattle.model_files.specs.wctl.Rectangle.{after_choice, applied, is_coordinate, is_side}
use Rattle.model_files.specs.wctl.Rectangle as wctl
use Rattle.model_forest.specs.World.{SameSize}
use Rattle.model_draw.specs.draw.Making.{farthest, is_near, is_near_rect}
use Rattle.model_draw.specs.draw.Orders.{is_window_rect}
use Rattle.law_shown.specs.fitting.Fitting.{IsWay}
use Rattle.law_shown.proofs.shown.Tests.{both, split}
use Rattle.law_shown.proofs.shown.Sizes.{rect_of, resized}
use Rattle.law_shown.proofs.shown.Frames.{same_size, sizes}

le_of : (a b : ℤ) → int_le a b ≡ true → a ≤ℤ b
le_of a b h = grind (arith, ints)

not_lt : (a b : ℤ) → b ≤ℤ a → not (int_lt a b) ≡ true
not_lt a b h = grind (arith, ints)

near_of : (x : ℤ) → is_coordinate x ≡ true → is_near farthest x ≡ true
near_of x h =
    let parts = split (int_le (neg_ℤ wctl.farthest) x) (int_le x wctl.farthest) h in
    let low = le_of (neg_ℤ wctl.farthest) x parts.0 in
    let high = le_of x wctl.farthest parts.1 in
    both (not (int_lt x (neg_ℤ (pos (2 ^ 29))))) (not (int_lt (pos (2 ^ 29)) x)) (not_lt x (neg_ℤ (pos (2 ^ 29))) (omega (arith, ints))) (not_lt (pos (2 ^ 29)) x (omega (arith, ints)))

near_rect : (r : Rect) → wctl.is_near r ≡ true → is_near_rect farthest r ≡ true
near_rect r h =
    let abc = split (is_coordinate r.min.x && is_coordinate r.min.y && is_coordinate r.max.x) (is_coordinate r.max.y) h in
    let ab = split (is_coordinate r.min.x && is_coordinate r.min.y) (is_coordinate r.max.x) abc.0 in
    let a = split (is_coordinate r.min.x) (is_coordinate r.min.y) ab.0 in
    both (is_near farthest r.min.x && is_near farthest r.min.y && is_near farthest r.max.x) (is_near farthest r.max.y)
    (both (is_near farthest r.min.x && is_near farthest r.min.y) (is_near farthest r.max.x) (both (is_near farthest r.min.x) (is_near farthest r.min.y) (near_of r.min.x a.0) (near_of r.min.y a.1)) (near_of r.max.x ab.1))
    (near_of r.max.y abc.1)

-- ---- moved along

along : (high low by : ℤ) → (high +ℤ by) -ℤ (low +ℤ by) ≡ high -ℤ low
along high low by = omega (arith, ints)

pub shifted_size : (r : Rect) (by : Point) → SameSize (shifted r by) r
shifted_size r by = record { width = along r.max.x r.min.x by.x; height = along r.max.y r.min.y by.y }

pub shifted_rect : (r : Rect) (by : Point) → wctl.is_near (shifted r by) ≡ true → is_window_rect r ≡ true → is_window_rect (shifted r by) ≡ true
shifted_rect r by near h = resized (shifted r by) r (near_rect (shifted r by) near) (shifted_size r by) h

-- ---- options

side : (x : ℤ) → is_side x ≡ true → pos 8 <ℤ x
side x h = let low = le_of (pos 12) x (split (int_le (pos 12) x) (int_le x (pos 2048)) h).0 in omega (arith, ints)

window_rect : (r : Rect) → wctl.is_window r ≡ true → is_window_rect r ≡ true
window_rect r h =
    let parts = split (is_side (r.max.x -ℤ r.min.x) && is_side (r.max.y -ℤ r.min.y)) (wctl.is_near r) h in
    let both_sides = split (is_side (r.max.x -ℤ r.min.x)) (is_side (r.max.y -ℤ r.min.y)) parts.0 in
    rect_of r (near_rect r parts.1) (side (r.max.x -ℤ r.min.x) both_sides.0) (side (r.max.y -ℤ r.min.y) both_sides.1)

applied_is : (moves : Bool) (options : List Choice) (start r : Rect) → applied moves options start ≡ Some r → (fold (after_choice moves) start options ≡ r) × (wctl.is_window r ≡ true)
unfolding applied
applied_is moves options start r e = by (wctl.is_window (fold (after_choice moves) start options)) refl e
  where
    by : (b : Bool) → wctl.is_window (fold (after_choice moves) start options) ≡ b → (if b then Some (fold (after_choice moves) start options) else None) ≡ Some r
        → (fold (after_choice moves) start options ≡ r) × (wctl.is_window r ≡ true)
    by true is e = let same : fold (after_choice moves) start options ≡ r = cc in (same, subst (λ (q : Rect). wctl.is_window q ≡ true) same is)
    by false is e = absurd cc

pub applied_rect : (moves : Bool) (options : List Choice) (start r : Rect) → applied moves options start ≡ Some r → is_window_rect r ≡ true
applied_rect moves options start r e = window_rect r (applied_is moves options start r e).1

carried : (high low to : ℤ) → (high +ℤ (to -ℤ low)) -ℤ to ≡ high -ℤ low
carried high low to = omega (arith, ints)

way_size : (choice : Choice) (r : Rect) → IsWay choice → SameSize (after_choice true r choice) r
way_size (Minx a) r is = record { width = carried r.max.x r.min.x (wctl.given r.min.x a); height = refl }
way_size (Miny a) r is = record { width = refl; height = carried r.max.y r.min.y (wctl.given r.min.y a) }
way_size (R other) r is = absurd is
way_size (Maxx a) r is = absurd is
way_size (Maxy a) r is = absurd is
way_size (Dx a) r is = absurd is
way_size (Dy a) r is = absurd is

ways_size : (options : List Choice) (r : Rect) → All IsWay options → SameSize (fold (after_choice true) r options) r
ways_size [] r all = same_size r
ways_size (choice ∷ options) r all =
    let next = after_choice true r choice in
    sizes (fold (after_choice true) next options) next r (ways_size options next (All-tail IsWay choice options all)) (way_size choice r (All-head IsWay choice options all))

pub applied_size : (options : List Choice) (start r : Rect) → All IsWay options → applied true options start ≡ Some r → SameSize r start
applied_size options start r all e = subst (λ (q : Rect). SameSize q start) (applied_is true options start r e).0 (ways_size options start all)
