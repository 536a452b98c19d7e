-- A rectangle that is near, and has the size of one that a window may have, is one.
use Rattle.std.proofs.Common.{◌≡◌, Bool, true, false, ℤ, pos, ◌+ℤ◌, ◌-ℤ◌, ◌<ℤ◌, int_le, refl, sym, ap, subst, arith}
use Rattle.std.specs.Prelude.{not}
use Rattle.std.proofs.lemmas.Int.{ints}
use Rattle.r9_geom.specs.declared.Rect.{Rect}
use Rattle.r9_geom.specs.Geometry.{is_empty}
use Rattle.model_forest.specs.World.{SameSize}
use Rattle.model_draw.specs.draw.Making.{farthest, is_near_rect}
use Rattle.model_draw.specs.draw.Orders.{inside_border, is_window_rect}
use Rattle.law_shown.proofs.shown.Tests.{both, first_false, neither, second_false, split}

above : (a b : ℤ) → int_le a b ≡ false → b <ℤ a
above a b h = grind (arith, ints)

le_false : (a b : ℤ) → b <ℤ a → int_le a b ≡ false
le_false a b h = grind (arith, ints)

-- a side that is long enough for a border has an inside
wide : (high low : ℤ) → pos 8 <ℤ (high -ℤ low) → int_le (high -ℤ pos 4) (low +ℤ pos 4) ≡ false
wide high low h = le_false (high -ℤ pos 4) (low +ℤ pos 4) (omega (arith, ints))

long : (high low : ℤ) → int_le (high -ℤ pos 4) (low +ℤ pos 4) ≡ false → pos 8 <ℤ (high -ℤ low)
long high low h = let more = above (high -ℤ pos 4) (low +ℤ pos 4) h in omega (arith, ints)

pub rect_of : (r : Rect) → is_near_rect farthest r ≡ true → pos 8 <ℤ (r.max.x -ℤ r.min.x) → pos 8 <ℤ (r.max.y -ℤ r.min.y) → is_window_rect r ≡ true
rect_of r near across down =
    both (is_near_rect farthest r) (not (is_empty (inside_border r))) near
    (ap not (neither (int_le (r.max.x -ℤ pos 4) (r.min.x +ℤ pos 4)) (int_le (r.max.y -ℤ pos 4) (r.min.y +ℤ pos 4)) (wide r.max.x r.min.x across) (wide r.max.y r.min.y down)))

not_false : (b : Bool) → not b ≡ true → b ≡ false
not_false true h = absurd cc
not_false false h = refl

sides : (r : Rect) → is_window_rect r ≡ true → (pos 8 <ℤ (r.max.x -ℤ r.min.x)) × (pos 8 <ℤ (r.max.y -ℤ r.min.y))
sides r h =
    let inside = not_false (is_empty (inside_border r)) (split (is_near_rect farthest r) (not (is_empty (inside_border r))) h).1 in (
      long r.max.x r.min.x (first_false (int_le (r.max.x -ℤ pos 4) (r.min.x +ℤ pos 4)) (int_le (r.max.y -ℤ pos 4) (r.min.y +ℤ pos 4)) inside),
      long r.max.y r.min.y (second_false (int_le (r.max.x -ℤ pos 4) (r.min.x +ℤ pos 4)) (int_le (r.max.y -ℤ pos 4) (r.min.y +ℤ pos 4)) inside),
    )

-- a rectangle that is near, and has the size of one that a window may have, is one
pub resized : (r old : Rect) → is_near_rect farthest r ≡ true → SameSize r old → is_window_rect old ≡ true → is_window_rect r ≡ true
resized r old near size h =
    let have = sides old h in
    rect_of r near (subst (λ (x : ℤ). pos 8 <ℤ x) (sym size.width) have.0) (subst (λ (x : ℤ). pos 8 <ℤ x) (sym size.height) have.1)
