-- What rows with a cursor over them hold for the points of their rectangle.
use Rattle.std.proofs.Common.{rules, ◌≡◌, ℕ, zero, suc, Bool, true, false, ◌+◌, ◌-◌, ◌*◌, ◌/◌, ◌%◌, ◌^◌, ◌<◌, ◌≤◌, refl, ap, ◌∙◌, sym, subst, arith, ⊎_elim, cond, List, drop, length, get_or, Some, None, Option}
use Rattle.std.specs.Prelude.{nat_lt, nat_le, ◌&&◌, ◌-ℤ◌}
use Rattle.std.specs.Option.{unwrap_or, option_map_or}
use Rattle.std.proofs.lemmas.Nat.{shr-shr, div-mul-add, mod-mul-add, mod_below, pow_pos, mul-le}
use Rattle.std.proofs.lemmas.List.{get_or-drop}
use Rattle.std.proofs.lemmas.Bool.{cases_lt, lt-ltb, le-leb}
use Rattle.std.proofs.Math.Nat.{div-add-mod, mod-eq_of_lt, mul_comm}
use Rattle.r9_geom.specs.declared.Point.{Point}
use Rattle.r9_geom.specs.declared.Rect.{Rect}
use Rattle.r9_geom.specs.Geometry.{distance, height, holds, width, point_at, IsOrdered, IsRectNear}
use Rattle.r9_geom.proofs.GeometryLemmas.{cell_of, same_point}
use Rattle.model_pixel.specs.Channels.{colour_of, depth, is_depth, pack}
use Rattle.model_pixel.specs.Rows.{joined, little, raw_at, row_bytes, row_pixel, skip}
use Rattle.model_client.specs.cursor.Cursor.{black, white, cursor_at, has, is_edge}
use Rattle.model_client.specs.cursor.Rows.{over_byte, put_in}
use Rattle.r9_plane.proofs.PackedLemmas.{by_depth, little-same, little-written, raw_at_small, raw_at_whole, size_of, within_at}
use Rattle.r9_plane.proofs.RowLemmas.{row_fits}
use Rattle.r9_cursor.specs.Bytes.{byte_under, old_bits}
use Rattle.r9_cursor.proofs.Bytes.{over_is, under_small, under_whole}

-- one of the pixels that are joined
pub joined_digit : (depth : ℕ) (f : ℕ → ℕ) (n k j : ℕ) → ((i : ℕ) → f i < 2 ^ depth) → j < k → joined depth f n k / 2 ^ (depth * (k - 1 - j)) % 2 ^ depth ≡ f (n + j)
joined_digit depth f n zero j fits within = absurd (omega (arith, within))
joined_digit depth f n (suc k) j fits within =
    let whole = joined depth f n k * 2 ^ depth + f (n + k) in
    ⊎_elim
    (λ (less : j < k).
    let e = depth * (k - 1 - j) in
    let more : depth * (suc k - 1 - j) ≡ depth + e = ap (λ v. depth * v) (let next : suc k - 1 - j ≡ k - 1 - j + 1 = omega (arith, less) in next) ∙ omega arith in
    ap (λ v. whole / 2 ^ v % 2 ^ depth) more
    ∙ ap (λ v. v % 2 ^ depth) (sym (shr-shr whole depth e))
    ∙ ap (λ v. v / 2 ^ e % 2 ^ depth) (div-mul-add (joined depth f n k) (2 ^ depth) (f (n + k)) (fits (n + k)))
    ∙ joined_digit depth f n k j fits less)
    (λ (last : k ≤ j).
    let same : k ≡ j = omega (arith, last, within) in
    let none : depth * (suc k - 1 - j) ≡ 0 = ap (λ v. depth * v) (let no_more : suc k - 1 - j ≡ 0 = omega (arith, last) in no_more) ∙ omega arith in
    ap (λ v. whole / 2 ^ v % 2 ^ depth) none
    ∙ ap (λ v. v % 2 ^ depth) (let one : whole / 1 ≡ whole = omega arith in one)
    ∙ mod-mul-add (joined depth f n k) (2 ^ depth) (f (n + k)) (fits (n + k))
    ∙ ap (λ i. f (n + i)) same)
    (cases_lt j k)

pixel_below : (depth : ℕ) (o : Option ℕ) (x : ℕ) → ((raw : ℕ) → o ≡ Some raw → raw < 2 ^ depth) → x < 2 ^ depth → unwrap_or o x < 2 ^ depth
pixel_below depth None x low below = below
pixel_below depth (Some raw) x low below = low raw refl

small_shown : (depth : ℕ) (put : ℕ → Option ℕ) (new old : List ℕ) (n : ℕ) → is_depth depth ≡ true → depth < 8 → ((m raw : ℕ) → put m ≡ Some raw → raw < 2 ^ depth)
    → get_or new (n / (8 / depth)) 0 ≡ byte_under depth put (n / (8 / depth)) (get_or old (n / (8 / depth)) 0) → raw_at depth new n ≡ unwrap_or (put n) (raw_at depth old n)
small_shown depth put new old n is small low byte =
    let per = 8 / depth in
    let k = n / per in
    let b = get_or old k 0 in
    let some : 0 < per = by_depth (λ d. 0 < 8 / d) depth is small (omega arith) (omega arith) (omega arith) in
    let here : k * per + n % per ≡ n = omega (arith, div-add-mod n per) in
    let pixel = λ (m : ℕ). unwrap_or (put m) (old_bits depth b m) in
    raw_at_small depth new n small
    ∙ ap (λ v. v / 2 ^ (depth * (per - 1 - n % per)) % 2 ^ depth) (byte ∙ under_small depth put k b small)
    ∙ joined_digit depth pixel (k * per) per (n % per)
    (λ m. pixel_below depth (put m) (old_bits depth b m) (low m) (mod_below (b / 2 ^ (depth * (per - 1 - m % per))) (2 ^ depth) (pow_pos depth)))
    (mod_below n per some)
    ∙ ap pixel here
    ∙ ap (unwrap_or (put n)) (sym (raw_at_small depth old n small))

whole_by : (depth s : ℕ) (o : Option ℕ) (new old : List ℕ) (at : ℕ) → depth ≡ 8 * s → ((raw : ℕ) → o ≡ Some raw → raw < 2 ^ depth)
    → ((j : ℕ) → j < s → get_or new (at + j) 0 ≡ option_map_or (λ raw. raw / 2 ^ (8 * j) % 256) o (get_or old (at + j) 0)) → little s new at ≡ unwrap_or o (little s old at)
whole_by depth s (Some raw) new old at size low bytes =
    little-written s new at raw bytes ∙ mod-eq_of_lt (subst (λ (e : ℕ). raw < 2 ^ e) size (low raw refl))
whole_by depth s None new old at size low bytes =
    little-same s new old at
    (λ k from below.
    let back : at + (k - at) ≡ k = omega (arith, from) in
    subst (λ (m : ℕ). get_or new m 0 ≡ get_or old m 0) back (bytes (k - at) (omega (arith, from, below))))

whole_shown : (depth : ℕ) (put : ℕ → Option ℕ) (new old : List ℕ) (n : ℕ) → is_depth depth ≡ true → 8 ≤ depth → ((m raw : ℕ) → put m ≡ Some raw → raw < 2 ^ depth)
    → ((j : ℕ) → j < depth / 8 → get_or new (n * (depth / 8) + j) 0 ≡ byte_under depth put (n * (depth / 8) + j) (get_or old (n * (depth / 8) + j) 0)) → raw_at depth new n ≡ unwrap_or (put n) (raw_at depth old n)
whole_shown depth put new old n is whole low bytes =
    let s = depth / 8 in
    let some : 0 < s = omega (arith, whole) in
    let size : depth ≡ 8 * s = size_of depth is whole in
    raw_at_whole depth s new n some size
    ∙ ap (little s new) (mul_comm s n)
    ∙ whole_by depth s (put n) new old (n * s) size (low n)
    (λ j h.
    let row : (n * s + j) / s ≡ n = div-mul-add n s j h in
    let column : (n * s + j) % s ≡ j = mod-mul-add n s j h in
    bytes j h
    ∙ under_whole depth put (n * s + j) (get_or old (n * s + j) 0) whole
    ∙ (λ i. option_map_or (λ raw. raw / 2 ^ (8 * column i) % 256) (put (row i)) (get_or old (n * s + j) 0)))
    ∙ ap (unwrap_or (put n)) (sym (raw_at_whole depth s old n some size ∙ ap (little s old) (mul_comm s n)))

-- a pixel whose bytes stand in a line
pixel_shown : (depth : ℕ) (put : ℕ → Option ℕ) (new old : List ℕ) (n line : ℕ) → is_depth depth ≡ true → ((m raw : ℕ) → put m ≡ Some raw → raw < 2 ^ depth) → (n + 1) * depth ≤ 8 * line
    → ((k : ℕ) → k < line → get_or new k 0 ≡ byte_under depth put k (get_or old k 0)) → raw_at depth new n ≡ unwrap_or (put n) (raw_at depth old n)
pixel_shown depth put new old n line is low fits bytes =
    ⊎_elim
    (λ (small : depth < 8). small_shown depth put new old n is small low (bytes (n / (8 / depth)) (within_at depth n line is small fits).byte))
    (λ (whole : 8 ≤ depth).
    let s = depth / 8 in
    let all : (n + 1) * depth ≡ 8 * (n * s + s) = ap (λ d. (n + 1) * d) (size_of depth is whole) ∙ omega arith in
    whole_shown depth put new old n is whole low (λ j h. bytes (n * s + j) (omega (arith, fits, all, h))))
    (cases_lt depth 8)

-- ---- points

-- what stands for a test, where it is true
if_true : (b : Bool) (o : Option ℕ) → b ≡ true → cond b o None ≡ o
if_true true o is = refl
if_true false o is = absurd (search (rules, is))

if_some : (b : Bool) (o : Option ℕ) (raw : ℕ) → cond b o None ≡ Some raw → o ≡ Some raw
if_some true o raw is = is
if_some false o raw is = absurd (search (rules, is))

shape_low : (b e : Bool) (chan most raw : ℕ) → pack chan (colour_of black) < most → pack chan (colour_of white) < most → cond b (Some (pack chan (colour_of (cond e black white)))) None ≡ Some raw → raw < most
shape_low false e chan most raw dark light is = absurd (search (rules, is))
shape_low true true chan most raw dark light is = subst (λ (n : ℕ). n < most) (ap (λ (o : Option ℕ). unwrap_or o 0) is) dark
shape_low true false chan most raw dark light is = subst (λ (n : ℕ). n < most) (ap (λ (o : Option ℕ). unwrap_or o 0) is) light

pub shown_is : (r : Rect) (chan : ℕ) (at p : Point) (rows new : List ℕ) → IsRectNear r → IsOrdered r → is_depth (depth chan) ≡ true → length rows ≡ row_bytes r (depth chan) * height r → ((i : ℕ) → get_or rows i 0 < 256)
    → pack chan (colour_of black) < 2 ^ depth chan → pack chan (colour_of white) < 2 ^ depth chan → ((k : ℕ) → k < length rows → get_or new k 0 ≡ over_byte r chan at rows k) → holds r p ≡ true
    → row_pixel r (depth chan) new p ≡ unwrap_or (cursor_at chan at p) (row_pixel r (depth chan) rows p)
shown_is r chan at p rows new near ordered is whole fits dark light bytes inside =
    let bits = depth chan in
    let line = row_bytes r bits in
    let row = distance r.min.y p.y in
    let column = distance r.min.x p.x in
    let first = skip r bits in
    let n = first + column in
    let cell = cell_of r p inside in
    let put = put_in r chan at row in
    let room : (n + 1) * bits ≤ 8 * line = omega (arith, mul-le (n + 1) bits (first + width r) bits (omega (arith, cell.column)) (omega arith), row_fits r bits near ordered is) in
    let back : n - first ≡ column = omega arith in
    let tests : (nat_le first n && nat_lt n (first + width r)) ≡ true = rw (le-leb first n (omega arith), lt-ltb n (first + width r) (omega (arith, cell.column))) refl in
    let here : put n ≡ cursor_at chan at p =
    if_true (nat_le first n && nat_lt n (first + width r)) (cursor_at chan at (point_at r (n - first) row)) tests
    ∙ ap (λ (m : ℕ). cursor_at chan at (point_at r m row)) back ∙ ap (cursor_at chan at) (same_point (point_at r column row) p cell.left cell.top) in
    let low = λ (m raw : ℕ) (some : put m ≡ Some raw).
    let q = point_at r (m - first) row in
    shape_low (has (q.x -ℤ at.x) (q.y -ℤ at.y)) (is_edge (q.x -ℤ at.x) (q.y -ℤ at.y)) chan (2 ^ bits) raw dark light
    (if_some (nat_le first m && nat_lt m (first + width r)) (cursor_at chan at q) raw some) in
    let each = λ (k : ℕ) (h : k < line).
    let m = row * line + k in
    let within : m < length rows = omega (arith, whole, mul-le (row + 1) line (height r) line (omega (arith, cell.row)) (omega arith), h) in
    let line_row : m / line ≡ row = div-mul-add row line k h in
    let place : m % line ≡ k = mod-mul-add row line k h in
    get_or-drop (row * line) new k 0
    ∙ bytes m within
    ∙ sym (over_is r r chan chan at at bits line m (get_or rows m 0) rows refl refl refl refl refl refl is fits)
    ∙ (λ i. byte_under bits (put_in r chan at (line_row i)) (place i) (get_or rows m 0))
    ∙ ap (byte_under bits put k) (sym (get_or-drop (row * line) rows k 0)) in
    pixel_shown bits put (drop (row * line) new) (drop (row * line) rows) n line is low room each
    ∙ ap (λ (o : Option ℕ). unwrap_or o (raw_at bits (drop (row * line) rows) n)) here
