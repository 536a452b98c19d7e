-- The pixels that the rows of a map hold.
use Rattle.std.proofs.Common.{◌≡◌, ℕ, Bool, true, false, ◌+◌, ◌-◌, ◌*◌, ◌/◌, ◌%◌, ◌^◌, ◌<◌, ◌≤◌, zero, suc, refl, ap, ◌∙◌, sym, subst, arith, ⊎_elim, List, drop, length, get_or}
use Rattle.std.specs.Prelude.{nat_lt, nat_le, ◌&&◌, if◌then◌else◌}
use Rattle.std.proofs.lemmas.Nat.{shr-shr, div-mul-add, mod-mul-add, mod_below, pow_pos, mul-le}
use Rattle.std.proofs.lemmas.List.{get_or-drop}
use Rattle.std.proofs.lemmas.List.FromFn.{get_or-map-range_with_len, length-map-range_with_len}
use Rattle.std.proofs.lemmas.Bool.{and_parts, cases_lt, cond-true, leb-true, ltb-true, lt-ltb, le-leb}
use Rattle.std.proofs.Math.Nat.{div-add-mod, mod-eq_of_lt, mul_comm}
use Rattle.r9_geom.specs.declared.Point.{Point}
use Rattle.r9_geom.specs.declared.Rect.{Rect}
use Rattle.r9_geom.specs.Geometry.{distance, height, holds, width, point_at, IsOrdered, IsRectNear}
use Rattle.r9_geom.proofs.GeometryLemmas.{cell_of, point_holds, same_point}
use Rattle.model_pixel.specs.Channels.{is_depth}
use Rattle.model_pixel.specs.Rows.{byte_at, joined, little, raw_at, row_bytes, row_pixel, row_place, rows_of, skip}
use Rattle.r9_plane.proofs.PackedLemmas.{by_depth, byte_small, byte_whole, little-written, raw_at_small, raw_at_whole, size_of, within_at}
use Rattle.r9_plane.proofs.RowLemmas.{row_fits}

-- one of the pixels that are joined
digit_of : (depth : ℕ) (pixel : ℕ → ℕ) (n k j : ℕ) → ((i : ℕ) → pixel i < 2 ^ depth) → j < k → joined depth pixel n k / 2 ^ (depth * (k - 1 - j)) % 2 ^ depth ≡ pixel (n + j)
digit_of depth pixel n zero j fits within = absurd (omega (arith, within))
digit_of depth pixel n (suc k) j fits within =
    let whole = joined depth pixel n k * 2 ^ depth + pixel (n + k) in
    ⊎_elim
    (λ (less : j < k).
    let e = depth * (k - 1 - j) in
    let more : depth * (suc k - 1 - j) ≡ depth + e = ap (λ v. depth * v) (let next : suc k - 1 - j ≡ k - 1 - j + 1 = omega (arith, less) in next) ∙ omega arith in
    ap (λ v. whole / 2 ^ v % 2 ^ depth) more
    ∙ ap (λ v. v % 2 ^ depth) (sym (shr-shr whole depth e))
    ∙ ap (λ v. v / 2 ^ e % 2 ^ depth) (div-mul-add (joined depth pixel n k) (2 ^ depth) (pixel (n + k)) (fits (n + k)))
    ∙ digit_of depth pixel n k j fits less)
    (λ (last : k ≤ j).
    let same : k ≡ j = omega (arith, last, within) in
    let none : depth * (suc k - 1 - j) ≡ 0 = ap (λ v. depth * v) (let no_more : suc k - 1 - j ≡ 0 = omega (arith, last) in no_more) ∙ omega arith in
    ap (λ v. whole / 2 ^ v % 2 ^ depth) none
    ∙ ap (λ v. v % 2 ^ depth) (let one : whole / 1 ≡ whole = omega arith in one)
    ∙ mod-mul-add (joined depth pixel n k) (2 ^ depth) (pixel (n + k)) (fits (n + k))
    ∙ ap (λ i. pixel (n + i)) same)
    (cases_lt j k)

small_back : (depth : ℕ) (pixel : ℕ → ℕ) (bytes : List ℕ) (n : ℕ) → is_depth depth ≡ true → depth < 8 → ((i : ℕ) → pixel i < 2 ^ depth)
    → get_or bytes (n / (8 / depth)) 0 ≡ byte_at depth pixel (n / (8 / depth)) → raw_at depth bytes n ≡ pixel n
small_back depth pixel bytes n is small fits byte =
    let per = 8 / depth in
    let k = n / per in
    let some : 0 < per = by_depth (λ d. 0 < 8 / d) depth is small (omega arith) (omega arith) (omega arith) in
    let here : k * per + n % per ≡ n = omega (arith, div-add-mod n per) in
    raw_at_small depth bytes n small
    ∙ ap (λ v. v / 2 ^ (depth * (per - 1 - n % per)) % 2 ^ depth) (byte ∙ byte_small depth pixel k small)
    ∙ digit_of depth pixel (k * per) per (n % per) fits (mod_below n per some)
    ∙ ap pixel here

whole_back : (depth : ℕ) (pixel : ℕ → ℕ) (bytes : List ℕ) (n : ℕ) → is_depth depth ≡ true → 8 ≤ depth → ((i : ℕ) → pixel i < 2 ^ depth)
    → ((j : ℕ) → j < depth / 8 → get_or bytes (n * (depth / 8) + j) 0 ≡ byte_at depth pixel (n * (depth / 8) + j)) → raw_at depth bytes n ≡ pixel n
whole_back depth pixel bytes n is whole fits each =
    let s = depth / 8 in
    let some : 0 < s = omega (arith, whole) in
    let size : depth ≡ 8 * s = size_of depth is whole in
    raw_at_whole depth s bytes n some size
    ∙ ap (little s bytes) (mul_comm s n)
    ∙ little-written s bytes (n * s) (pixel n)
    (λ j h.
    let row : (n * s + j) / s ≡ n = div-mul-add n s j h in
    let place : (n * s + j) % s ≡ j = mod-mul-add n s j h in
    each j h
    ∙ byte_whole depth pixel (n * s + j) whole
    ∙ (λ i. pixel (row i) / 2 ^ (8 * place i) % 256))
    ∙ mod-eq_of_lt (subst (λ (e : ℕ). pixel n < 2 ^ e) size (fits n))

-- a pixel whose bytes stand in a line
pixel_back : (depth : ℕ) (pixel : ℕ → ℕ) (bytes : List ℕ) (n line : ℕ) → is_depth depth ≡ true → ((i : ℕ) → pixel i < 2 ^ depth) → (n + 1) * depth ≤ 8 * line
    → ((k : ℕ) → k < line → get_or bytes k 0 ≡ byte_at depth pixel k) → raw_at depth bytes n ≡ pixel n
pixel_back depth pixel bytes n line is low fits each =
    ⊎_elim
    (λ (small : depth < 8). small_back depth pixel bytes n is small low (each (n / (8 / depth)) (within_at depth n line is small fits).byte))
    (λ (whole : 8 ≤ depth).
    let s = depth / 8 in
    let all : (n + 1) * depth ≡ 8 * (n * s + s) = ap (λ d. (n + 1) * d) (size_of depth is whole) ∙ omega arith in
    whole_back depth pixel bytes n is whole low (λ j h. each (n * s + j) (omega (arith, fits, all, h))))
    (cases_lt depth 8)

-- ---- points

-- the pixels of one row fit
place_below : (r : Rect) (depth : ℕ) (pixel : Point → ℕ) → ((p : Point) → holds r p ≡ true → pixel p < 2 ^ depth) → (row : ℕ) → row < height r → (n : ℕ) → row_place r depth pixel row n < 2 ^ depth
place_below r depth pixel low row below n = by_cases (nat_le (skip r depth) n && nat_lt n (skip r depth + width r)) refl
  where
    by_cases : (b : Bool) → (nat_le (skip r depth) n && nat_lt n (skip r depth + width r)) ≡ b → (if b then pixel (point_at r (n - skip r depth) row) else 0) < 2 ^ depth
    by_cases false e = pow_pos depth
    by_cases true e =
        let parts = and_parts (nat_le (skip r depth) n) (nat_lt n (skip r depth + width r)) e in
        let left = leb-true (skip r depth) n parts.0 in
        let right = ltb-true n (skip r depth + width r) parts.1 in
        low (point_at r (n - skip r depth) row) (point_holds r (n - skip r depth) row (omega arith) below)

pub length-rows_of : (r : Rect) (depth : ℕ) (pixel : Point → ℕ) → length (rows_of r depth pixel) ≡ row_bytes r depth * height r
unfolding rows_of
length-rows_of r depth pixel =
    length-map-range_with_len (λ (k : ℕ). byte_at depth (row_place r depth pixel (k / row_bytes r depth)) (k % row_bytes r depth)) 0 (row_bytes r depth * height r)

get_or-rows_of : (r : Rect) (depth : ℕ) (pixel : Point → ℕ) (k : ℕ) → k < row_bytes r depth * height r
    → get_or (rows_of r depth pixel) k 0 ≡ byte_at depth (row_place r depth pixel (k / row_bytes r depth)) (k % row_bytes r depth)
unfolding rows_of
get_or-rows_of r depth pixel k below =
    get_or-map-range_with_len (λ (j : ℕ). byte_at depth (row_place r depth pixel (j / row_bytes r depth)) (j % row_bytes r depth)) 0 (row_bytes r depth * height r) k k 0 below (omega arith)

-- the rows of a map hold its pixels
pub row_pixel-rows_of : (r : Rect) (depth : ℕ) (pixel : Point → ℕ) (p : Point) → IsRectNear r → IsOrdered r → is_depth depth ≡ true → ((q : Point) → holds r q ≡ true → pixel q < 2 ^ depth) → holds r p ≡ true
    → row_pixel r depth (rows_of r depth pixel) p ≡ pixel p
row_pixel-rows_of r depth pixel p near ordered is low inside =
    let rows = rows_of r depth pixel in
    let line = row_bytes r depth in
    let row = distance r.min.y p.y in
    let column = distance r.min.x p.x in
    let first = skip r depth in
    let n = first + column in
    let cell = cell_of r p inside in
    let room : (n + 1) * depth ≤ 8 * line = omega (arith, mul-le (n + 1) depth (first + width r) depth (omega (arith, cell.column)) (omega arith), row_fits r depth near ordered is) in
    let back : n - first ≡ column = omega arith in
    let tests : (nat_le first n && nat_lt n (first + width r)) ≡ true = rw (le-leb first n (omega arith), lt-ltb n (first + width r) (omega (arith, cell.column))) refl in
    let each = λ (k : ℕ) (h : k < line).
    let m = row * line + k in
    let within : m < line * height r = omega (arith, mul-le (row + 1) line (height r) line (omega (arith, cell.row)) (omega arith), h) in
    let line_row : m / line ≡ row = div-mul-add row line k h in
    let place : m % line ≡ k = mod-mul-add row line k h in
    get_or-drop (row * line) rows k 0
    ∙ get_or-rows_of r depth pixel m within
    ∙ (λ i. byte_at depth (row_place r depth pixel (line_row i)) (place i)) in
    pixel_back depth (row_place r depth pixel row) (drop (row * line) rows) n line is (place_below r depth pixel low row cell.row) room each
    ∙ cond-true (nat_le first n && nat_lt n (first + width r)) (pixel (point_at r (n - first) row)) 0 tests
    ∙ ap (λ (m : ℕ). pixel (point_at r m row)) back
    ∙ ap pixel (same_point (point_at r column row) p cell.left cell.top)
