-- The rectangles and the distances of the commands of a desk, from points of the display.
use Rattle.std.proofs.Common.{◌≡◌, ◌∙◌, ◌<◌, ◌≤◌, ◌+◌, ◌^◌, ℕ, ℤ, pos, negsuc, neg_ℤ, ◌+ℤ◌, ◌-ℤ◌, ◌≤ℤ◌, ◌<ℤ◌, suc, Bool, true, false, cond, ◌&&◌, int_le, int_lt, ◌∷◌, Some, None, refl, sym, ap, subst, arith}
use Rattle.std.specs.Int.{int_max, int_min}
use Rattle.std.specs.Fmt.{decimal}
use Rattle.std.proofs.lemmas.Bool.{cond_both, or_from}
use Rattle.std.proofs.lemmas.Fmt.{length-decimal-le}
use Rattle.std.proofs.lemmas.Int.{ints}
use Rattle.std.proofs.lemmas.List.Elements.{All-cons}
use Rattle.r9_geom.specs.declared.Point.{Point}
use Rattle.r9_geom.specs.declared.Rect.{Rect}
use Rattle.r9_geom.specs.Geometry.{holds, shifted}
use Rattle.model_text.specs.text.Word.{is_blank}
use Rattle.model_files.specs.wctl.Words.{is_newline}
use Rattle.model_files.specs.wctl.Rectangle.{farthest, is_coordinate, is_near, is_side, is_window}
use Rattle.law_shown.proofs.shown.Tests.{both, split}
use Rattle.model_client.specs.declared.desk.Spot.{Spot}
use Rattle.model_client.specs.desk.Asked.{if_wide, menu_rect, swept}
use Rattle.model_client.specs.desk.Spelled.{change}
use Rattle.law_desk.proofs.piloted.Commands.{IsWord, box, decimal_word}
use Rattle.law_desk.proofs.piloted.Numbers.{IsChange, less_again, more_again}
use Rattle.law_desk.specs.ready.Ready.{IsAlong, IsOnDisplay}

-- ---- tests of integers

le_true : (a b : ℤ) → a ≤ℤ b → int_le a b ≡ true
le_true a b h = grind (arith, ints)

le_of : (a b : ℤ) → int_le a b ≡ true → a ≤ℤ b
le_of a b h = grind (arith, ints)

lt_of : (a b : ℤ) → int_lt a b ≡ true → a <ℤ b
lt_of a b h = grind (arith, ints)

is_side_of : (z : ℤ) → pos 12 ≤ℤ z → z ≤ℤ pos 2048 → is_side z ≡ true
is_side_of z low high = both (int_le (pos 12) z) (int_le z (pos 2048)) (le_true (pos 12) z low) (le_true z (pos 2048) high)

is_coordinate_of : (z : ℤ) → neg_ℤ farthest ≤ℤ z → z ≤ℤ farthest → is_coordinate z ≡ true
is_coordinate_of z low high = both (int_le (neg_ℤ farthest) z) (int_le z farthest) (le_true (neg_ℤ farthest) z low) (le_true z farthest high)

-- ---- a rectangle near the display

pub record IsBox (r : Rect) : Type 0 where
  pub left : ℕ
  pub top : ℕ
  pub right : ℕ
  pub bottom : ℕ
  pub is : r ≡ box left top right bottom
  pub far : right < 1000
  pub low : bottom < 1000
  pub wide : left + 12 ≤ right
  pub high : top + 12 ≤ bottom

side_between : (low high : ℕ) → low + 12 ≤ high → high < 1000 → is_side (pos high -ℤ pos low) ≡ true
side_between low high wide far = is_side_of (pos high -ℤ pos low) (omega (arith, ints)) (omega (arith, ints))

coordinate_at : (n : ℕ) → n < 1000 → is_coordinate (pos n) ≡ true
coordinate_at n near = is_coordinate_of (pos n) (omega (arith, ints)) (omega (arith, ints))

box_fits : (left top right bottom : ℕ) → left + 12 ≤ right → top + 12 ≤ bottom → right < 1000 → bottom < 1000 → is_window (box left top right bottom) ≡ true
box_fits left top right bottom wide high far low =
    rw (
      side_between left right wide far,
      side_between top bottom high low,
      coordinate_at left (omega (arith, wide, far)),
      coordinate_at top (omega (arith, high, low)),
      coordinate_at right far,
      coordinate_at bottom low,
    ) refl

pub window_box : (r : Rect) (is : IsBox r) → is_window r ≡ true
window_box r is = ap is_window is.is ∙ box_fits is.left is.top is.right is.bottom is.wide is.high is.far is.low

-- the menu's
pub menu_box : (at : Spot) → IsOnDisplay at → IsBox (menu_rect at)
menu_box at on =
    let x = on.x.within in
    let y = on.y.within in
    record {
      left = on.x.at;
      top = on.y.at;
      right = on.x.at + 48;
      bottom = on.y.at + 88;
      is = λ i. record { min = record { x = on.x.is i; y = on.y.is i }; max = record { x = on.x.is i +ℤ pos 48; y = on.y.is i +ℤ pos 88 } };
      far = omega (arith, x);
      low = omega (arith, y);
      wide = omega arith;
      high = omega arith;
    }

-- those that are swept
lower : (most : ℕ) (a b : ℤ) → IsAlong most a → IsAlong most b → IsAlong most (int_min a b)
lower most a b one two = cond_both (int_lt b a) b a (IsAlong most) (λ _. two) (λ _. one)

upper : (most : ℕ) (a b : ℤ) → IsAlong most a → IsAlong most b → IsAlong most (int_max a b)
upper most a b one two = cond_both (int_lt b a) a b (IsAlong most) (λ _. one) (λ _. two)

apart_by : (a b : ℤ) (m n : ℕ) → a ≡ pos m → b ≡ pos n → int_le (pos 12) (b -ℤ a) ≡ true → m + 12 ≤ n
apart_by a b m n one two h =
    let far : pos 12 ≤ℤ (pos n -ℤ pos m) = subst (λ (z : ℤ). pos 12 ≤ℤ z) (λ i. two i -ℤ one i) (le_of (pos 12) (b -ℤ a) h) in
    omega (arith, ints, far)

wide_box : (left top right bottom : ℤ) (r : Rect) → IsAlong 640 left → IsAlong 480 top → IsAlong 640 right → IsAlong 480 bottom → if_wide left top right bottom ≡ Some r → IsBox r
wide_box left top right bottom r l t e b is = by (int_le (pos 12) (right -ℤ left)) (int_le (pos 12) (bottom -ℤ top)) refl refl is
  where
    by : (c d : Bool) → int_le (pos 12) (right -ℤ left) ≡ c → int_le (pos 12) (bottom -ℤ top) ≡ d
        → cond (c && d) (Some (record { min = record { x = left; y = top }; max = record { x = right; y = bottom } })) None ≡ Some r → IsBox r
    by true true wide high is =
        let same : (record { min = record { x = left; y = top }; max = record { x = right; y = bottom } }) ≡ r = cc in
        let far = e.within in
        let low = b.within in
        subst IsBox same (record {
          left = l.at;
          top = t.at;
          right = e.at;
          bottom = b.at;
          is = λ i. record { min = record { x = l.is i; y = t.is i }; max = record { x = e.is i; y = b.is i } };
          far = omega (arith, far);
          low = omega (arith, low);
          wide = apart_by left right l.at e.at l.is e.is wide;
          high = apart_by top bottom t.at b.at t.is b.is high;
        })
    by true false wide high is = absurd cc
    by false d wide high is = absurd cc

pub swept_box : (a b : Spot) (r : Rect) → IsOnDisplay a → IsOnDisplay b → swept a b ≡ Some r → IsBox r
swept_box a b r one two is =
    wide_box (int_min a.x b.x) (int_min a.y b.y) (int_max a.x b.x) (int_max a.y b.y) r (lower 640 a.x b.x one.x two.x) (lower 480 a.y b.y one.y two.y) (upper 640 a.x b.x one.x two.x) (upper 480 a.y b.y one.y two.y) is

-- ---- how far a window is dragged

-- the text of a change is a word, and is read back
pub record IsStep (by : ℤ) : Type 0 where
  pub low : neg_ℤ (pos 640) ≤ℤ by
  pub high : by ≤ℤ pos 640

pub step_read : (by : ℤ) → IsStep by → IsChange by
step_read (pos n) is = let high = is.high in more_again n (omega (arith, ints, high))
step_read (negsuc n) is = let low = is.low in less_again n (omega (arith, ints, low))

signed_word : (sign n : ℕ) → is_blank sign ≡ false → is_newline sign ≡ false → n < 10 ^ 7 → IsWord (sign ∷ decimal n)
signed_word sign n blank newline small =
    let word = decimal_word n (omega (arith, small)) in
    let few = length-decimal-le 7 n (omega arith) small (omega (arith, small)) in
    record {
      plain = All-cons (λ byte. is_blank byte ≡ false) sign (decimal n) blank word.plain;
      line = or_from _ _ newline word.line;
      some = omega arith;
      short = omega (arith, few);
    }

not_negative : (n : ℕ) → int_lt (pos n) (pos 0) ≡ false
not_negative n = grind (arith, ints)

pub step_word : (by : ℤ) → IsStep by → IsWord (change by)
step_word (pos n) is = let high = is.high in rw (not_negative n) (signed_word 43 n refl refl (omega (arith, ints, high)))
step_word (negsuc n) is = let low = is.low in signed_word 45 (suc n) refl refl (omega (arith, ints, low))

pub step_between : (most : ℕ) (a b : ℤ) → most ≤ 640 → IsAlong most a → IsAlong most b → IsStep (b -ℤ a)
step_between most a b few one two =
    let low = one.within in
    let high = two.within in
    subst IsStep (λ i. sym two.is i -ℤ sym one.is i) (record { low = omega (arith, ints, low, high, few); high = omega (arith, ints, low, high, few) })

-- ---- where it then stands

side_same : (low high by : ℤ) → (high +ℤ by) -ℤ (low +ℤ by) ≡ high -ℤ low
side_same low high by = omega (arith, ints)

-- a side of a window, of which a point is on the display
record IsHeld (low high p : ℤ) : Type 0 where
  left : low ≤ℤ p
  right : p <ℤ high
  long : (high -ℤ low) ≤ℤ pos 2048

held_low : (low high p by : ℤ) → IsHeld low high p → IsAlong 640 p → IsStep by → is_coordinate (low +ℤ by) ≡ true
held_low low high p by held on step =
    let left = held.left in
    let right = held.right in
    let long = held.long in
    let at = on.is in
    let within = on.within in
    let down = step.low in
    let up = step.high in
    is_coordinate_of (low +ℤ by) (omega (arith, ints, left, right, long, at, within, down, up)) (omega (arith, ints, left, right, long, at, within, down, up))

held_high : (low high p by : ℤ) → IsHeld low high p → IsAlong 640 p → IsStep by → is_coordinate (high +ℤ by) ≡ true
held_high low high p by held on step =
    let left = held.left in
    let right = held.right in
    let long = held.long in
    let at = on.is in
    let within = on.within in
    let down = step.low in
    let up = step.high in
    is_coordinate_of (high +ℤ by) (omega (arith, ints, left, right, long, at, within, down, up)) (omega (arith, ints, left, right, long, at, within, down, up))

further : (z : ℤ) → IsAlong 480 z → IsAlong 640 z
further z on = let within = on.within in record { at = on.at; is = on.is; within = omega (arith, within) }

-- the parts of a test of a window
record HasSides (r : Rect) : Type 0 where
  across : is_side (r.max.x -ℤ r.min.x) ≡ true
  down : is_side (r.max.y -ℤ r.min.y) ≡ true
  wide : (r.max.x -ℤ r.min.x) ≤ℤ pos 2048
  high : (r.max.y -ℤ r.min.y) ≤ℤ pos 2048

sides_of : (r : Rect) → is_window r ≡ true → HasSides r
sides_of r fits =
    let sides = split (is_side (r.max.x -ℤ r.min.x)) (is_side (r.max.y -ℤ r.min.y)) (split (is_side (r.max.x -ℤ r.min.x) && is_side (r.max.y -ℤ r.min.y)) (is_near r) fits).0 in
    record {
      across = sides.0;
      down = sides.1;
      wide = le_of (r.max.x -ℤ r.min.x) (pos 2048) (split (int_le (pos 12) (r.max.x -ℤ r.min.x)) (int_le (r.max.x -ℤ r.min.x) (pos 2048)) sides.0).1;
      high = le_of (r.max.y -ℤ r.min.y) (pos 2048) (split (int_le (pos 12) (r.max.y -ℤ r.min.y)) (int_le (r.max.y -ℤ r.min.y) (pos 2048)) sides.1).1;
    }

-- a window that holds a point of the display may stand so far from there
pub shifted_fits : (r : Rect) (from : Spot) (by : Point) → is_window r ≡ true → holds r (record { x = from.x; y = from.y }) ≡ true → IsOnDisplay from → IsStep by.x → IsStep by.y → is_window (shifted r by) ≡ true
shifted_fits r from by fits holding on across down =
    let sides = sides_of r fits in
    let parts = split (int_le r.min.x from.x && int_lt from.x r.max.x) (int_le r.min.y from.y && int_lt from.y r.max.y) holding in
    let columns = split (int_le r.min.x from.x) (int_lt from.x r.max.x) parts.0 in
    let rows = split (int_le r.min.y from.y) (int_lt from.y r.max.y) parts.1 in
    let x : IsHeld r.min.x r.max.x from.x = record { left = le_of r.min.x from.x columns.0; right = lt_of from.x r.max.x columns.1; long = sides.wide } in
    let y : IsHeld r.min.y r.max.y from.y = record { left = le_of r.min.y from.y rows.0; right = lt_of from.y r.max.y rows.1; long = sides.high } in
    rw (
      ap is_side (side_same r.min.x r.max.x by.x) ∙ sides.across,
      ap is_side (side_same r.min.y r.max.y by.y) ∙ sides.down,
      held_low r.min.x r.max.x from.x by.x x on.x across,
      held_low r.min.y r.max.y from.y by.y y (further from.y on.y) down,
      held_high r.min.x r.max.x from.x by.x x on.x across,
      held_high r.min.y r.max.y from.y by.y y (further from.y on.y) down,
    ) refl
