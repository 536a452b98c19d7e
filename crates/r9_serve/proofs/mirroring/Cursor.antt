-- Where the cursor is not.
use Rattle.std.proofs.Common.{◌≡◌, ◌∙◌, ℕ, ℤ, pos, ◌+◌, ◌*◌, ◌/◌, ◌+ℤ◌, ◌-ℤ◌, ◌≤ℤ◌, ◌<ℤ◌, Bool, true, false, ◌&&◌, ◌||◌, Option, Some, None, cond, ⊎_elim, refl, ap, sym, arith, int_le, int_lt}
use Rattle.std.proofs.lemmas.Bool.{and_cases, and_from, and_parts, false_from_ne_true, not-false, or_parts, false≢true}
use Rattle.std.proofs.lemmas.Int.{ints}
use Rattle.std.specs.Option.{unwrap_or}
use Rattle.r9_geom.specs.declared.Point.{Point}
use Rattle.r9_geom.specs.Geometry.{is_point}
use Rattle.r9_geom.proofs.GeometryLemmas.{is_point_true}
use Rattle.model_client.specs.cursor.Cursor.{has}
use Rattle.model_mirror.specs.Sent.{has_moved, meets, spans}
use Rattle.model_mirror.specs.Shown.{under_cursor}

-- the point of a column and a row
abbrev pub spot : ℕ → ℕ → Point
spot x y = record { x = pos x; y = pos y }

-- a raw pixel there with the cursor over it
abbrev pub seen : (chan : ℕ) → Option Point → (raw x y : ℕ) → ℕ
seen chan pointer raw x y = under_cursor chan pointer (λ p. raw) (spot x y)

le_of : (a b : ℤ) → int_le a b ≡ true → a ≤ℤ b
le_of a b h = grind (arith, ints)

lt_from : (a b : ℤ) → a <ℤ b → int_lt a b ≡ true
lt_from a b h = grind (arith, ints)

-- a place less than 16 behind the first lies in a cell that the 16 meet
near_spans : (first : ℤ) (x : ℕ) → pos 0 ≤ℤ (pos x -ℤ first) → (pos x -ℤ first) ≤ℤ pos 15 → spans first (x / 32) ≡ true
near_spans first x low high =
    and_from _ _
    (lt_from first (pos (32 * (x / 32) + 32)) (omega (arith, ints, low, high)))
    (lt_from (pos (32 * (x / 32))) (first +ℤ pos 16) (omega (arith, ints, low, high)))

below : (a b : ℤ) → a ≤ℤ b → b ≤ℤ pos 15 → a ≤ℤ pos 15
below a b h k = omega (arith, ints, h, k)

above : (a b : ℤ) → pos 0 ≤ℤ a → a ≤ℤ b → pos 0 ≤ℤ b
above a b h k = omega (arith, ints, h, k)

has_meets : (at : Point) (x y : ℕ) → has (pos x -ℤ at.x) (pos y -ℤ at.y) ≡ true → meets (Some at) (x / 32) (y / 32) ≡ true
has_meets at x y h =
    let one = and_parts _ _ h in
    let two = and_parts _ _ one.0 in
    let dx = pos x -ℤ at.x in
    let dy = pos y -ℤ at.y in
    let left = le_of (pos 0) dx two.0 in
    let slope = le_of dx dy two.1 in
    let bottom = le_of dy (pos 15) one.1 in
    and_from _ _ (near_spans at.x x left (below dx dy slope bottom)) (near_spans at.y y (above dx dy left slope) bottom)

not_put : (b : Bool) (put raw : ℕ) → b ≡ false → unwrap_or (cond b (Some put) None) raw ≡ raw
not_put b put raw h = ap (λ (c : Bool). unwrap_or (cond c (Some put) None) raw) h

pub unmet : (chan : ℕ) (at : Option Point) (raw x y : ℕ) → meets at (x / 32) (y / 32) ≡ false → seen chan at raw x y ≡ raw
unmet chan None raw x y h = refl
unmet chan (Some at) raw x y h =
    not_put (has (pos x -ℤ at.x) (pos y -ℤ at.y)) _ raw
    (false_from_ne_true _ (λ put. absurd (false≢true (sym h ∙ has_meets at x y put))))

unmoved : (old new : Option Point) → has_moved old new ≡ false → new ≡ old
unmoved None None h = refl
unmoved (Some old) (Some new) h = ap (λ (p : Point). Some p) (sym (is_point_true old new (not-false (is_point old new) h)))
unmoved None (Some new) h = absurd (false≢true (sym h))
unmoved (Some old) None h = absurd (false≢true (sym h))

-- a cursor that met the cell no longer, and meets it not, or that has not moved
pub unsent_same : (chan : ℕ) (old new : Option Point) (raw x y : ℕ) → (has_moved old new && (meets old (x / 32) (y / 32) || meets new (x / 32) (y / 32))) ≡ false → seen chan new raw x y ≡ seen chan old raw x y
unsent_same chan old new raw x y h =
    let moved = has_moved old new in
    let met = meets old (x / 32) (y / 32) || meets new (x / 32) (y / 32) in
    ⊎_elim
    (λ (e : moved ≡ false). ap (λ (at : Option Point). seen chan at raw x y) (unmoved old new e))
    (λ (e : met ≡ false).
    let both = or_parts _ _ e in
    unmet chan new raw x y both.1 ∙ sym (unmet chan old raw x y both.0))
    (and_cases moved met h)
