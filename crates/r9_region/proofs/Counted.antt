-- The points of rectangles, counted by columns and rows: rectangles that hold each point of another one no more often than others do
-- have no more points.
use Rattle.std.proofs.Common.{◌≡◌, ◌∙◌, ℕ, zero, suc, ℤ, pos, ◌+◌, ◌*◌, ◌<◌, ◌≤◌, ◌+ℤ◌, ◌-ℤ◌, ◌≤ℤ◌, ◌<ℤ◌, int_le, int_lt, Bool, true, false, ◌&&◌, ◌||◌, List, [], ◌∷◌, refl, sym, ap, arith}
use Rattle.std.specs.Prelude.{nat_lt, sum_by, All}
use Rattle.std.specs.Int.{int_max, int_min}
use Rattle.std.proofs.Math.Nat.{mul_comm}
use Rattle.std.proofs.lemmas.Bool.{and_parts, or_parts, or_right}
use Rattle.std.proofs.lemmas.Bool.Decides.{nat_tests}
use Rattle.std.proofs.lemmas.Int.{ints, clamps}
use Rattle.std.proofs.lemmas.List.Elements.{All-head, All-tail}
use Rattle.std.proofs.lemmas.List.Sums.{sum_by-cons, sum_by-le-sum_by}
use Rattle.std.proofs.lemmas.Nat.{mul-le}
use Rattle.r9_geom.specs.declared.Point.{Point}
use Rattle.r9_geom.specs.declared.Rect.{Rect}
use Rattle.r9_geom.specs.Geometry.{area_of, distance, height, holds, is_empty, point_at, width, IsOrdered}
use Rattle.r9_geom.proofs.GeometryLemmas.{distance_is, int_le_false, point_holds, points_span}
use Rattle.r9_region.specs.Region.{covers, how_many_hold}
use Rattle.r9_region.proofs.Points.{covers_is, how_many-cons, one_if}

-- ---- sums

-- the sum of a number for each of so many
abbrev sum_to : ℕ → (ℕ → ℕ) → ℕ
sum_to zero f = 0
sum_to (suc n) f = sum_to n f + f n

sum_to-le : (n : ℕ) (f g : ℕ → ℕ) → ((k : ℕ) → k < n → f k ≤ g k) → sum_to n f ≤ sum_to n g
sum_to-le zero f g h = omega arith
sum_to-le (suc n) f g h = omega (arith, sum_to-le n f g (λ k below. h k (omega (arith, below))), h n (omega arith))

sum_to-same : (n : ℕ) (f g : ℕ → ℕ) → ((k : ℕ) → f k ≡ g k) → sum_to n f ≡ sum_to n g
sum_to-same zero f g h = refl
sum_to-same (suc n) f g h = omega (arith, sum_to-same n f g h, h n)

sum_to-plus : (n : ℕ) (f g : ℕ → ℕ) → sum_to n (λ k. f k + g k) ≡ sum_to n f + sum_to n g
sum_to-plus zero f g = refl
sum_to-plus (suc n) f g = omega (arith, sum_to-plus n f g)

sum_to-zero : (n : ℕ) → sum_to n (λ k. 0) ≡ 0
sum_to-zero zero = refl
sum_to-zero (suc n) = omega (arith, sum_to-zero n)

times_more : (a b c : ℕ) → (a + b) * c ≡ a * c + b * c
times_more a b c = grind arith

sum_to-times : (n c : ℕ) (f : ℕ → ℕ) → sum_to n (λ k. f k * c) ≡ sum_to n f * c
sum_to-times zero c f = grind arith
sum_to-times (suc n) c f = omega (arith, sum_to-times n c f, times_more (sum_to n f) (f n) c)

-- ---- columns

abbrev is_in : (low high x : ℤ) → Bool
is_in low high x = int_le low x && int_lt x high

in_yes : (low high x : ℤ) → low ≤ℤ x → x <ℤ high → is_in low high x ≡ true
in_yes low high x a b = grind (arith, ints)

in_low : (low high x : ℤ) → x <ℤ low → is_in low high x ≡ false
in_low low high x a = grind (arith, ints)

in_high : (low high x : ℤ) → high ≤ℤ x → is_in low high x ≡ false
in_high low high x a = grind (arith, ints)

-- how many of the numbers from `base` on lie there
abbrev columns : (n : ℕ) (base low high : ℤ) → ℕ
columns n base low high = sum_to n (λ k. one_if (is_in low high (base +ℤ pos k)))

-- as many as from the greater of both beginnings to the lesser of both ends
columns_are : (n : ℕ) (base low high : ℤ) → pos (columns n base low high) ≡ int_max (pos 0) (int_min high (base +ℤ pos n) -ℤ int_max low base)
columns_are zero base low high = omega (arith, ints, clamps)
columns_are (suc n) base low high = columns_more n base low high (columns_are n base low high)
  where
    columns_more : (n : ℕ) (base low high : ℤ) → pos (columns n base low high) ≡ int_max (pos 0) (int_min high (base +ℤ pos n) -ℤ int_max low base) → pos (columns (suc n) base low high) ≡ int_max (pos 0) (int_min high (base +ℤ pos (suc n)) -ℤ int_max low base)
    columns_more n base low high so_far = at (int_le low x) refl (int_lt x high) refl
      where
        x : ℤ
        x = base +ℤ pos n

        int_le_is : (a b : ℤ) → int_le a b ≡ true → a ≤ℤ b
        int_le_is a b h = grind (arith, ints)

        int_lt_is : (a b : ℤ) → int_lt a b ≡ true → a <ℤ b
        int_lt_is a b h = grind (arith, ints)

        int_lt_not : (a b : ℤ) → int_lt a b ≡ false → b ≤ℤ a
        int_lt_not a b h = grind (arith, ints)

        at : (a : Bool) → int_le low x ≡ a → (b : Bool) → int_lt x high ≡ b → pos (columns (suc n) base low high) ≡ int_max (pos 0) (int_min high (base +ℤ pos (suc n)) -ℤ int_max low base)
        at true e true f =
            let left = int_le_is low x e in
            let right = int_lt_is x high f in
            let one = ap one_if (in_yes low high x left right) in
            omega (arith, ints, clamps, so_far, left, right, one)
        at false e b f =
            let left = int_le_false low x e in
            let none = ap one_if (in_low low high x left) in
            omega (arith, ints, clamps, so_far, left, none)
        at true e false f =
            let right = int_lt_not x high f in
            let none = ap one_if (in_high low high x right) in
            omega (arith, ints, clamps, so_far, right, none)

columns_most : (n : ℕ) (base low high : ℤ) → columns n base low high ≤ distance low high
columns_most n base low high = at (int_le low high) refl
  where
    is : pos (columns n base low high) ≡ int_max (pos 0) (int_min high (base +ℤ pos n) -ℤ int_max low base)
    is = columns_are n base low high

    int_le_is : (a b : ℤ) → int_le a b ≡ true → a ≤ℤ b
    int_le_is a b h = grind (arith, ints)

    at : (b : Bool) → int_le low high ≡ b → columns n base low high ≤ distance low high
    at true e =
        let ordered = int_le_is low high e in
        let long = distance_is low high ordered in
        omega (arith, ints, clamps, is, ordered, long)
    at false e =
        let none = int_le_false low high e in
        omega (arith, ints, clamps, is, none)

columns_all : (n : ℕ) (base low high : ℤ) → low ≤ℤ high → base ≤ℤ low → high ≤ℤ (base +ℤ pos n) → columns n base low high ≡ distance low high
columns_all n base low high ordered from to =
    let is = columns_are n base low high in
    let long = distance_is low high ordered in
    omega (arith, ints, clamps, is, ordered, from, to, long)

-- ---- rectangles

-- a number for each point of a rectangle
abbrev count : Rect → (Point → ℕ) → ℕ
count r f = sum_to (height r) (λ j. sum_to (width r) (λ k. f (point_at r k j)))

count-le : (r : Rect) (f g : Point → ℕ) → ((z : Point) → holds r z ≡ true → f z ≤ g z) → count r f ≤ count r g
count-le r f g h =
    sum_to-le (height r) _ _ (λ j low. sum_to-le (width r) _ _ (λ k left. h (point_at r k j) (point_holds r k j left low)))

count-plus : (r : Rect) (f g : Point → ℕ) → count r (λ z. f z + g z) ≡ count r f + count r g
count-plus r f g =
    sum_to-same (height r) _ _ (λ j. sum_to-plus (width r) (λ k. f (point_at r k j)) (λ k. g (point_at r k j)))
    ∙ sum_to-plus (height r) (λ j. sum_to (width r) (λ k. f (point_at r k j))) (λ j. sum_to (width r) (λ k. g (point_at r k j)))

count-zero : (r : Rect) → count r (λ z. 0) ≡ 0
count-zero r = sum_to-same (height r) _ _ (λ j. sum_to-zero (width r)) ∙ sum_to-zero (height r)

one_if-and : (a b : Bool) → one_if (a && b) ≡ one_if b * one_if a
one_if-and true true = refl
one_if-and true false = refl
one_if-and false true = refl
one_if-and false false = refl

-- what a rectangle holds of another is its columns times its rows there
count_held : (r s : Rect) → count r (λ z. one_if (holds s z)) ≡ columns (height r) r.min.y s.min.y s.max.y * columns (width r) r.min.x s.min.x s.max.x
count_held r s =
    sum_to-same (height r) _ (λ j. one_if (is_in s.min.y s.max.y (r.min.y +ℤ pos j)) * columns (width r) r.min.x s.min.x s.max.x)
    (λ j.
    sum_to-same (width r) _ _
    (λ k.
    one_if-and (is_in s.min.x s.max.x (r.min.x +ℤ pos k)) (is_in s.min.y s.max.y (r.min.y +ℤ pos j))
    ∙ mul_comm (one_if (is_in s.min.y s.max.y (r.min.y +ℤ pos j))) (one_if (is_in s.min.x s.max.x (r.min.x +ℤ pos k))))
    ∙ sum_to-times (width r) (one_if (is_in s.min.y s.max.y (r.min.y +ℤ pos j))) (λ k. one_if (is_in s.min.x s.max.x (r.min.x +ℤ pos k)))
    ∙ mul_comm (columns (width r) r.min.x s.min.x s.max.x) (one_if (is_in s.min.y s.max.y (r.min.y +ℤ pos j))))
    ∙ sum_to-times (height r) (columns (width r) r.min.x s.min.x s.max.x) (λ j. one_if (is_in s.min.y s.max.y (r.min.y +ℤ pos j)))

held_most : (r s : Rect) → count r (λ z. one_if (holds s z)) ≤ area_of s
held_most r s =
    let across = columns_most (width r) r.min.x s.min.x s.max.x in
    let down = columns_most (height r) r.min.y s.min.y s.max.y in
    let both = mul-le (columns (height r) r.min.y s.min.y s.max.y) (columns (width r) r.min.x s.min.x s.max.x) (height s) (width s) down across in
    omega (arith, count_held r s, both, mul_comm (height s) (width s))

-- a rectangle of points of another one is counted whole there
held_all : (r s : Rect) → is_empty s ≡ false → IsOrdered r → ((z : Point) → holds s z ≡ true → holds r z ≡ true) → count r (λ z. one_if (holds s z)) ≡ area_of s
held_all r s solid ordered inside =
    let span = points_span s r solid inside in
    let flat = or_parts (int_le s.max.x s.min.x) (int_le s.max.y s.min.y) solid in
    let wide = int_le_false s.max.x s.min.x flat.0 in
    let high = int_le_false s.max.y s.min.y flat.1 in
    let across = and_parts (int_le r.min.x s.min.x) (int_le s.max.x r.max.x) span.across in
    let down = and_parts (int_le r.min.y s.min.y) (int_le s.max.y r.max.y) span.down in
    let right = distance_is r.min.x r.max.x ordered.across in
    let bottom = distance_is r.min.y r.max.y ordered.down in
    let a = int_le_is r.min.x s.min.x across.0 in
    let b = int_le_is s.max.x r.max.x across.1 in
    let c = int_le_is r.min.y s.min.y down.0 in
    let d = int_le_is s.max.y r.max.y down.1 in
    let columns_of = columns_all (width r) r.min.x s.min.x s.max.x (omega (arith, ints, wide)) a (omega (arith, ints, b, right)) in
    let rows_of = columns_all (height r) r.min.y s.min.y s.max.y (omega (arith, ints, high)) c (omega (arith, ints, d, bottom)) in
    count_held r s ∙ (λ i. rows_of i * columns_of i) ∙ mul_comm (height s) (width s)
  where
    int_le_is : (a b : ℤ) → int_le a b ≡ true → a ≤ℤ b
    int_le_is a b h = grind (arith, ints)

-- ---- lists of rectangles

count_many : (r : Rect) (xs : List Rect) → count r (λ z. how_many_hold xs z) ≡ sum_by (λ s. count r (λ z. one_if (holds s z))) xs
count_many r [] = count-zero r
count_many r (x ∷ xs) =
    sum_to-same (height r) _ _ (λ j. sum_to-same (width r) _ _ (λ k. how_many-cons x xs (point_at r k j)))
    ∙ count-plus r (λ z. one_if (holds x z)) (λ z. how_many_hold xs z)
    ∙ ap (λ n. count r (λ z. one_if (holds x z)) + n) (count_many r xs)
    ∙ sym (sum_by-cons (λ s. count r (λ z. one_if (holds s z))) x xs)

held_each : (r : Rect) (xs : List Rect) → All (λ s. is_empty s ≡ false) xs → IsOrdered r → ((z : Point) → covers xs z ≡ true → holds r z ≡ true) → sum_by (λ s. count r (λ z. one_if (holds s z))) xs ≡ sum_by area_of xs
held_each r [] solid ordered inside = refl
held_each r (x ∷ xs) solid ordered inside =
    sum_by-cons (λ s. count r (λ z. one_if (holds s z))) x xs
    ∙ (λ i. held_all r x (All-head (λ s. is_empty s ≡ false) x xs solid) ordered (λ z h. inside z (ap (λ b. b || covers xs z) h)) i
    + held_each r xs (All-tail (λ s. is_empty s ≡ false) x xs solid) ordered (λ z h. inside z (or_right (holds x z) (covers xs z) h)) i)
    ∙ sym (sum_by-cons area_of x xs)

held_fewer : (r : Rect) (ys : List Rect) → sum_by (λ s. count r (λ z. one_if (holds s z))) ys ≤ sum_by area_of ys
held_fewer r ys = sum_by-le-sum_by (λ s. count r (λ z. one_if (holds s z))) area_of ys (held_most r)

-- rectangles in one, each of which has points, are no more points than others that hold each of its points as often
pub areas_fewer : (r : Rect) (xs ys : List Rect) → IsOrdered r → All (λ s. is_empty s ≡ false) xs → ((z : Point) → covers xs z ≡ true → holds r z ≡ true) → ((z : Point) → holds r z ≡ true → how_many_hold xs z ≤ how_many_hold ys z) → sum_by area_of xs ≤ sum_by area_of ys
areas_fewer r xs ys ordered solid inside fewer =
    let of_xs = count_many r xs ∙ held_each r xs solid ordered inside in
    let of_ys = count_many r ys in
    let points = count-le r (λ z. how_many_hold xs z) (λ z. how_many_hold ys z) fewer in
    omega (arith, of_xs, of_ys, points, held_fewer r ys)

-- the same of rectangles of which no two have a point in common, where one of the others holds each point that one of them does
pub areas_apart : (r : Rect) (xs ys : List Rect) → IsOrdered r → All (λ s. is_empty s ≡ false) xs → ((z : Point) → how_many_hold xs z ≤ 1) → ((z : Point) → covers xs z ≡ true → holds r z ≡ true) → ((z : Point) → covers xs z ≡ true → covers ys z ≡ true) → sum_by area_of xs ≤ sum_by area_of ys
areas_apart r xs ys ordered solid once inside also =
    areas_fewer r xs ys ordered solid inside (λ z h. at z (covers xs z) refl)
  where
    some : (n : ℕ) → nat_lt 0 n ≡ true → 1 ≤ n
    some n h = grind (arith, nat_tests)

    none : (n : ℕ) → nat_lt 0 n ≡ false → n ≤ 0
    none n h = grind (arith, nat_tests)

    at : (z : Point) (b : Bool) → covers xs z ≡ b → how_many_hold xs z ≤ how_many_hold ys z
    at z true h = omega (arith, once z, some (how_many_hold ys z) (sym (covers_is ys z) ∙ also z h))
    at z false h = omega (arith, none (how_many_hold xs z) (sym (covers_is xs z) ∙ h))
