-- Rows of bytes, with coordinates counted from -2^40.
use Rattle.std.proofs.Common.{◌≡◌, ℕ, suc, true, ◌+◌, ◌-◌, ◌*◌, ◌/◌, ◌%◌, ◌^◌, ◌<◌, ◌≤◌, ap, ◌∙◌, sym, subst, arith, ⊎_elim, max, ℤ, pos, negsuc, ◌+ℤ◌, ◌*ℤ◌}
use Rattle.std.proofs.lemmas.Int.{ints}
use Rattle.std.specs.Int.{int_div_euclid, int_rem_euclid}
use Rattle.r9_geom.specs.declared.Rect.{Rect}
use Rattle.r9_geom.specs.Geometry.{distance, natural, width, IsOrdered, IsRectNear}
use Rattle.r9_geom.proofs.GeometryLemmas.{distance_is, natural_is}
use Rattle.std.proofs.Math.IntN.{negsuc-*ℤ-pos}
use Rattle.std.proofs.lemmas.Nat.{mul-le}
use Rattle.std.proofs.lemmas.Bool.{cases_lt}
use Rattle.model_pixel.specs.Channels.{is_depth}
use Rattle.r9_plane.proofs.PackedLemmas.{by_depth, by_whole}
use Rattle.model_pixel.specs.Rows.{row_bytes, skip}

-- a quotient and a remainder do not see a multiple of the divisor
floor_is : (z : ℤ) (m k : ℕ) → z +ℤ pos (8 * k) ≡ pos m → int_div_euclid z (pos 8) +ℤ pos k ≡ pos (m / 8)
floor_is (pos a) m k h = omega (arith, ints)
floor_is (negsuc a) m k h = omega (arith, ints)

rem_1 : (z : ℤ) → natural (int_rem_euclid z (pos 1)) ≡ 0
rem_1 (pos a) = omega arith
rem_1 (negsuc a) = omega arith

rem_2 : (z : ℤ) (m k : ℕ) → z +ℤ pos (8 * k) ≡ pos m → natural (int_rem_euclid z (pos 2)) ≡ m % 2
rem_2 (pos a) m k h = omega (arith, ints)
rem_2 (negsuc a) m k h = omega (arith, ints)

rem_4 : (z : ℤ) (m k : ℕ) → z +ℤ pos (8 * k) ≡ pos m → natural (int_rem_euclid z (pos 4)) ≡ m % 4
rem_4 (pos a) m k h = omega (arith, ints)
rem_4 (negsuc a) m k h = omega (arith, ints)

rem_8 : (z : ℤ) (m k : ℕ) → z +ℤ pos (8 * k) ≡ pos m → natural (int_rem_euclid z (pos 8)) ≡ m % 8
rem_8 (pos a) m k h = omega (arith, ints)
rem_8 (negsuc a) m k h = omega (arith, ints)

product_is : (x : ℤ) (n d k : ℕ) → x +ℤ pos (8 * k) ≡ pos n → x *ℤ pos d +ℤ pos (8 * (k * d)) ≡ pos (n * d)
product_is (pos a) n d k h =
    let sum : a + 8 * k ≡ n = omega (arith, ints) in
    let product : a * d + 8 * (k * d) ≡ n * d = subst (λ (v : ℕ). a * d + 8 * (k * d) ≡ v * d) sum (omega arith) in
    ap pos product
product_is (negsuc a) n d k h =
    let sum : n + suc a ≡ 8 * k = omega (arith, ints) in
    let product : n * d + suc a * d ≡ 8 * (k * d) = (omega arith) ∙ ap (λ v. v * d) sum ∙ omega arith in
    rw negsuc-*ℤ-pos (omega (arith, ints, product))

distance_from : (a b : ℤ) (k m n : ℕ) → a +ℤ pos k ≡ pos m → b +ℤ pos k ≡ pos n → m ≤ n → distance a b ≡ n - m
distance_from a b k m n p q h = let d = distance_is a b (omega (arith, ints)) in omega (arith, ints)

-- the rows of a rectangle in numbers, where low and high are the columns of its edges counted from -2^40
pub row_bytes_is : (r : Rect) (depth low high : ℕ) → pos low ≡ r.min.x +ℤ pos (2 ^ 40) → pos high ≡ r.max.x +ℤ pos (2 ^ 40) → low ≤ high → row_bytes r depth ≡ (high * depth + 7) / 8 - low * depth / 8
unfolding row_bytes
row_bytes_is r depth low high l h order =
    let first = product_is r.min.x low depth (2 ^ 37) (sym l) in
    let last = product_is r.max.x high depth (2 ^ 37) (sym h) in
    let more : low * depth ≤ high * depth + 7 = omega (arith, mul-le low depth high depth order (omega arith)) in
    let ordered : low * depth / 8 ≤ (high * depth + 7) / 8 = omega arith in
    let ceiling : r.max.x *ℤ pos depth +ℤ pos 7 +ℤ pos (8 * (2 ^ 37 * depth)) ≡ pos (high * depth + 7) = omega (arith, ints) in
    distance_from _ _ (2 ^ 37 * depth) (low * depth / 8) ((high * depth + 7) / 8)
    (floor_is (r.min.x *ℤ pos depth) (low * depth) (2 ^ 37 * depth) first)
    (floor_is (r.max.x *ℤ pos depth +ℤ pos 7) (high * depth + 7) (2 ^ 37 * depth) ceiling)
    ordered

pub skip_small : (r : Rect) (depth low : ℕ) → pos low ≡ r.min.x +ℤ pos (2 ^ 40) → is_depth depth ≡ true → depth < 8 → skip r depth ≡ low % (8 / depth)
unfolding skip
skip_small r depth low l is small =
    by_depth (λ d. natural (int_rem_euclid r.min.x (pos (max 1 (8 / d)))) ≡ low % (8 / d)) depth is small
    (rem_8 r.min.x low (2 ^ 37) (sym l)) (rem_4 r.min.x low (2 ^ 37) (sym l)) (rem_2 r.min.x low (2 ^ 37) (sym l))

pub skip_whole : (r : Rect) (depth : ℕ) → is_depth depth ≡ true → 8 ≤ depth → skip r depth ≡ 0
unfolding skip
skip_whole r depth is whole =
    by_whole (λ d. natural (int_rem_euclid r.min.x (pos (max 1 (8 / d)))) ≡ 0) depth is whole
    (rem_1 r.min.x) (rem_1 r.min.x) (rem_1 r.min.x) (rem_1 r.min.x)

-- the pixels of a row fit into its bytes
record Fits (depth low high bytes : ℕ) : Type 0 where
  pub small : (low % (8 / depth) + (high - low)) * depth ≤ 8 * bytes

record Whole (depth low high bytes : ℕ) : Type 0 where
  pub whole : (high - low) * depth ≤ 8 * bytes

small_fits : (depth low high : ℕ) → is_depth depth ≡ true → depth < 8 → low ≤ high → Fits depth low high ((high * depth + 7) / 8 - low * depth / 8)
small_fits depth low high is small order =
    by_depth (λ d. Fits d low high ((high * d + 7) / 8 - low * d / 8)) depth is small
    (record { small = omega arith }) (record { small = omega arith }) (record { small = omega arith })

whole_fits : (depth low high : ℕ) → is_depth depth ≡ true → 8 ≤ depth → low ≤ high → Whole depth low high ((high * depth + 7) / 8 - low * depth / 8)
whole_fits depth low high is whole order =
    by_whole (λ d. Whole d low high ((high * d + 7) / 8 - low * d / 8)) depth is whole
    (record { whole = omega arith }) (record { whole = omega arith }) (record { whole = omega arith }) (record { whole = omega arith })

pub row_fits : (r : Rect) (depth : ℕ) → IsRectNear r → IsOrdered r → is_depth depth ≡ true → (skip r depth + width r) * depth ≤ 8 * row_bytes r depth
row_fits r depth near ordered is =
    let low = natural (r.min.x +ℤ pos (2 ^ 40)) in
    let high = natural (r.max.x +ℤ pos (2 ^ 40)) in
    let left : pos low ≡ r.min.x +ℤ pos (2 ^ 40) = natural_is (r.min.x +ℤ pos (2 ^ 40)) (omega (arith, ints, near.min.left)) in
    let right : pos high ≡ r.max.x +ℤ pos (2 ^ 40) = natural_is (r.max.x +ℤ pos (2 ^ 40)) (omega (arith, ints, near.max.left)) in
    let order : low ≤ high = omega (arith, ints, left, right, ordered.across) in
    let bytes = row_bytes_is r depth low high left right order in
    let across : width r ≡ high - low = distance_from r.min.x r.max.x (2 ^ 40) low high (sym left) (sym right) order in
    rw (bytes, across)
    (⊎_elim
    (λ (small : depth < 8). rw (skip_small r depth low left is small) (small_fits depth low high is small order).small)
    (λ (whole : 8 ≤ depth). rw (skip_whole r depth is whole) (omega (arith, (whole_fits depth low high is whole order).whole)))
    (cases_lt depth 8))

-- a byte of a row of whole pixels belongs to one of them
record Inner (depth low high k : ℕ) : Type 0 where
  pub inner : k < (high * depth + 7) / 8 - low * depth / 8 → k / (depth / 8) < high - low

inner_at : (depth low high k : ℕ) → is_depth depth ≡ true → 8 ≤ depth → low ≤ high → Inner depth low high k
inner_at depth low high k is whole order =
    by_whole (λ d. Inner d low high k) depth is whole
    (record { inner = λ h. omega arith }) (record { inner = λ h. omega arith }) (record { inner = λ h. omega arith }) (record { inner = λ h. omega arith })

pub whole_inner : (r : Rect) (depth k : ℕ) → IsRectNear r → IsOrdered r → is_depth depth ≡ true → 8 ≤ depth → k < row_bytes r depth → k / (depth / 8) < width r
whole_inner r depth k near ordered is whole below =
    let low = natural (r.min.x +ℤ pos (2 ^ 40)) in
    let high = natural (r.max.x +ℤ pos (2 ^ 40)) in
    let left : pos low ≡ r.min.x +ℤ pos (2 ^ 40) = natural_is (r.min.x +ℤ pos (2 ^ 40)) (omega (arith, ints, near.min.left)) in
    let right : pos high ≡ r.max.x +ℤ pos (2 ^ 40) = natural_is (r.max.x +ℤ pos (2 ^ 40)) (omega (arith, ints, near.max.left)) in
    let order : low ≤ high = omega (arith, ints, left, right, ordered.across) in
    let bytes = row_bytes_is r depth low high left right order in
    let across : width r ≡ high - low = distance_from r.min.x r.max.x (2 ^ 40) low high (sym left) (sym right) order in
    let inner = (inner_at depth low high k is whole order).inner (omega (arith, below, bytes)) in
    omega (arith, inner, across)

-- a row of whole pixels has their bytes
record Exact (depth low high : ℕ) : Type 0 where
  pub exact : (high * depth + 7) / 8 - low * depth / 8 ≡ (high - low) * (depth / 8)

exact_at : (depth low high : ℕ) → is_depth depth ≡ true → 8 ≤ depth → Exact depth low high
exact_at depth low high is whole =
    by_whole (λ d. Exact d low high) depth is whole
    (record { exact = omega arith }) (record { exact = omega arith }) (record { exact = omega arith }) (record { exact = omega arith })

pub whole_row : (r : Rect) (depth : ℕ) → IsRectNear r → IsOrdered r → is_depth depth ≡ true → 8 ≤ depth → row_bytes r depth ≡ width r * (depth / 8)
whole_row r depth near ordered is whole =
    let low = natural (r.min.x +ℤ pos (2 ^ 40)) in
    let high = natural (r.max.x +ℤ pos (2 ^ 40)) in
    let left : pos low ≡ r.min.x +ℤ pos (2 ^ 40) = natural_is (r.min.x +ℤ pos (2 ^ 40)) (omega (arith, ints, near.min.left)) in
    let right : pos high ≡ r.max.x +ℤ pos (2 ^ 40) = natural_is (r.max.x +ℤ pos (2 ^ 40)) (omega (arith, ints, near.max.left)) in
    let order : low ≤ high = omega (arith, ints, left, right, ordered.across) in
    let across : width r ≡ high - low = distance_from r.min.x r.max.x (2 ^ 40) low high (sym left) (sym right) order in
    row_bytes_is r depth low high left right order
    ∙ (exact_at depth low high is whole).exact
    ∙ ap (λ n. n * (depth / 8)) (sym across)
