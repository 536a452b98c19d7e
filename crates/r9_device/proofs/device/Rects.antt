-- What tests of a rectangle say.
use Rattle.std.proofs.Common.{◌≡◌, ℕ, ◌*◌, ◌≤◌, Bool, true, false, ℤ, pos, negsuc, neg_ℤ, ◌-ℤ◌, ◌≤ℤ◌, ◌<ℤ◌, refl, ap, ◌∙◌, arith, int_le, int_lt}
use Rattle.std.specs.Prelude.{◌^◌, ◌||◌, ◌&&◌, not}
use Rattle.std.proofs.lemmas.Int.{ints}
use Rattle.r9_geom.specs.declared.Point.{Point}
use Rattle.r9_geom.specs.declared.Rect.{Rect}
use Rattle.r9_geom.specs.Geometry.{HasPoints, IsNearBy, IsOrdered, IsRectNearBy, area_of, distance, height, holds, is_empty, is_inside, natural, width}
use Rattle.model_draw.specs.draw.Making.{is_near, is_near_rect, farthest}

pub first_false : (a b : Bool) → (a || b) ≡ false → a ≡ false
first_false true b h = absurd cc
first_false false b h = refl

pub second_false : (a b : Bool) → (a || b) ≡ false → b ≡ false
second_false true b h = absurd cc
second_false false b h = h

both_left : (a b : Bool) → (a && b) ≡ true → a ≡ true
both_left true b h = refl
both_left false b h = absurd cc

both_right : (a b : Bool) → (a && b) ≡ true → b ≡ true
both_right true b h = h
both_right false b h = absurd cc

above : (a b : ℤ) → int_le a b ≡ false → b <ℤ a
above a b h = grind (arith, ints)

at_least : (x y : ℤ) → not (int_lt x y) ≡ true → y ≤ℤ x
at_least x y h = grind (arith, ints)

pub points-of : (r : Rect) → is_empty r ≡ false → HasPoints r
points-of r h = record { across = above r.max.x r.min.x (first_false _ _ h); down = above r.max.y r.min.y (second_false (int_le r.max.x r.min.x) _ h) }

pub ordered-of : (r : Rect) → HasPoints r → IsOrdered r
ordered-of r h = record { across = (let k = h.across in omega (arith, ints)); down = (let k = h.down in omega (arith, ints)) }

low : (x : ℤ) → is_near farthest x ≡ true → neg_ℤ (pos (2 ^ 32)) ≤ℤ x
low x h = let k = at_least x (neg_ℤ (pos (2 ^ 29))) (both_left _ _ h) in omega (arith, ints)

high : (x : ℤ) → is_near farthest x ≡ true → x ≤ℤ pos (2 ^ 32)
high x h = let k = at_least (pos (2 ^ 29)) x (both_right (not (int_lt x (neg_ℤ (pos (2 ^ 29))))) _ h) in omega (arith, ints)

pub near-of : (r : Rect) → is_near_rect farthest r ≡ true → IsRectNearBy (2 ^ 32) r
near-of r h =
    let abc = both_left _ (is_near farthest r.max.y) h in
    let ab = both_left _ (is_near farthest r.max.x) abc in
    let a = both_left (is_near farthest r.min.x) _ ab in
    let b = both_right (is_near farthest r.min.x) _ ab in
    let c = both_right (is_near farthest r.min.x && is_near farthest r.min.y) _ abc in
    let d = both_right (is_near farthest r.min.x && is_near farthest r.min.y && is_near farthest r.max.x) _ h in
    record {
      min = record { left = low r.min.x a; right = high r.min.x a; top = low r.min.y b; bottom = high r.min.y b };
      max = record { left = low r.max.x c; right = high r.max.x c; top = low r.max.y d; bottom = high r.max.y d };
    }

le_trans : (x y z : ℤ) → int_le x y ≡ true → int_le y z ≡ true → int_le x z ≡ true
le_trans x y z h k = grind (arith, ints)

lt_trans : (x y z : ℤ) → int_lt x y ≡ true → int_le y z ≡ true → int_lt x z ≡ true
lt_trans x y z h k = grind (arith, ints)

both : (a b : Bool) → a ≡ true → b ≡ true → (a && b) ≡ true
both true b h k = k
both false b h k = absurd cc

or-second : (a b : Bool) → a ≡ false → (a || b) ≡ true → b ≡ true
or-second true b h k = absurd cc
or-second false b h k = k

-- each point of a part is one of the whole
pub inside-holds : (a b : Rect) → is_empty a ≡ false → is_inside a b ≡ true → (p : Point) → holds a p ≡ true → holds b p ≡ true
inside-holds a b some inside p h =
    let edges = or-second (is_empty a) _ some inside in
    let across = both_left _ (int_le b.min.y a.min.y && int_le a.max.y b.max.y) edges in
    let down = both_right (int_le b.min.x a.min.x && int_le a.max.x b.max.x) _ edges in
    let px = both_left _ (int_le a.min.y p.y && int_lt p.y a.max.y) h in
    let py = both_right (int_le a.min.x p.x && int_lt p.x a.max.x) _ h in
    both _ _
    (both _ _ (le_trans b.min.x a.min.x p.x (both_left _ (int_le a.max.x b.max.x) across) (both_left _ (int_lt p.x a.max.x) px)) (lt_trans p.x a.max.x b.max.x (both_right (int_le a.min.x p.x) _ px) (both_right (int_le b.min.x a.min.x) _ across)))
    (both _ _ (le_trans b.min.y a.min.y p.y (both_left _ (int_le a.max.y b.max.y) down) (both_left _ (int_lt p.y a.max.y) py)) (lt_trans p.y a.max.y b.max.y (both_right (int_le a.min.y p.y) _ py) (both_right (int_le b.min.y a.min.y) _ down)))

wide : (x : ℤ) → is_near farthest x ≡ true → (neg_ℤ (pos (2 ^ 40)) ≤ℤ x) × (x ≤ℤ pos (2 ^ 40))
wide x h =
    let left = low x h in
    let right = high x h in
    (omega (arith, ints), omega (arith, ints))

pub near-point : (p : Point) → (is_near farthest p.x && is_near farthest p.y) ≡ true → IsNearBy (2 ^ 40) p
near-point p h =
    let x = wide p.x (both_left (is_near farthest p.x) (is_near farthest p.y) h) in
    let y = wide p.y (both_right (is_near farthest p.x) (is_near farthest p.y) h) in
    record { left = x.0; right = x.1; top = y.0; bottom = y.1 }

-- ---- within wider bounds

pub point-wider : (n m : ℕ) (p : Point) → n ≤ m → IsNearBy n p → IsNearBy m p
point-wider n m p less h =
    let left = h.left in
    let right = h.right in
    let top = h.top in
    let bottom = h.bottom in
    record { left = omega (arith, ints); right = omega (arith, ints); top = omega (arith, ints); bottom = omega (arith, ints) }

pub wider : (n m : ℕ) (r : Rect) → n ≤ m → IsRectNearBy n r → IsRectNearBy m r
wider n m r less h = record { min = point-wider n m r.min less h.min; max = point-wider n m r.max less h.max }

-- ---- a rectangle without points

none-natural : (n : ℤ) → n ≤ℤ pos 0 → natural n ≡ 0
none-natural (pos n) h = omega (arith, ints)
none-natural (negsuc n) h = refl

no-distance : (a b : ℤ) → int_le b a ≡ true → distance a b ≡ 0
no-distance a b h = let le : b ≤ℤ a = grind (arith, ints) in none-natural (b -ℤ a) (omega (arith, ints))

pub empty-area : (r : Rect) → is_empty r ≡ true → area_of r ≡ 0
empty-area r empty = by (int_le r.max.x r.min.x) refl empty
  where
    by : (across : Bool) → int_le r.max.x r.min.x ≡ across → (across || int_le r.max.y r.min.y) ≡ true → area_of r ≡ 0
    by true at empty = ap (λ n. n * height r) (no-distance r.min.x r.max.x at) ∙ omega arith
    by false at empty = ap (λ n. width r * n) (no-distance r.min.y r.max.y empty) ∙ omega arith
