-- The rows of a piece of a rectangle are a piece of its rows, and what a part of a file has of them.
use Rattle.std.proofs.Common.{◌≡◌, inl, inr, ◌∙◌, ◌≤◌, ◌<◌, ◌+◌, ◌-◌, ◌*◌, ◌^◌, ◌++◌, ◌/◌, ◌%◌, ◌&&◌, ℕ, zero, suc, Bool, true, false, List, [], length, get_or, take, drop, ⊎_elim, arith, ap, sym, refl, pos, ◌+ℤ◌, length-drop}
use Rattle.std.specs.Prelude.{◌⊎◌, ◌==◌, ◌||◌, if◌then◌else◌, min, nat_le, nat_lt}
use Rattle.std.proofs.lemmas.Int.{ints}
use Rattle.std.proofs.lemmas.Bool.{cases_lt}
use Rattle.std.proofs.lemmas.Bool.Decides.{nat_tests}
use Rattle.std.proofs.lemmas.List.{drop_all, drop-drop, drop-take, ext_get_or, get_or-drop, get_or-take, length-take, nil_from_length, take_all, take-take}
use Rattle.std.proofs.lemmas.List.FromFn.{get_or-map-range_with_len, length-map-range_with_len}
use Rattle.std.proofs.lemmas.Nat.{div-add-mod', le-div, mod_below, mul-le}
use Rattle.std.proofs.Math.Nat.{mul-add-div_right, mul-add-mod_self_right}
use Rattle.r9_geom.specs.declared.Point.{Point}
use Rattle.r9_geom.specs.declared.Rect.{Rect}
use Rattle.r9_geom.specs.Geometry.{height, holds, point_at, width, IsOrdered, IsRectNearBy}
use Rattle.r9_geom.proofs.GeometryLemmas.{bounds_of, distance_is, holds_from, same_point, same_rect}
use Rattle.model_pixel.specs.Channels as channels
use Rattle.model_pixel.specs.Rows.{byte_at, row_bytes, row_place, rows_of, skip}
use Rattle.model_draw.specs.imgfile.ImageFile.{file_header, file_part, image_file}
use Rattle.r9_imgfile.proofs.FileLemmas.{length-file_header}
use Rattle.r9_imgfile.proofs.PartLemmas.{part-append}
use Rattle.r9_imgfile.specs.Touched.{before_part, part_len, rows_between, rows_with, touched}

-- ---- the rows between two are rows of the rectangle

pub same_between : (r : Rect) (a b : ℕ) → IsOrdered r → record { min = point_at r 0 a; max = point_at r (width r) b } ≡ rows_between r a b
same_between r a b ordered =
    same_rect (record { min = point_at r 0 a; max = point_at r (width r) b }) (rows_between r a b)
    (omega (arith, ints)) refl (distance_is r.min.x r.max.x ordered.across) refl

pub near_between : (n : ℕ) (r : Rect) (a b : ℕ) → IsOrdered r → a ≤ b → b ≤ height r → IsRectNearBy n r → IsRectNearBy n (rows_between r a b)
near_between n r a b ordered le high near =
    let d = distance_is r.min.y r.max.y ordered.down in
    record {
      min = record { left = near.min.left; right = near.min.right; top = omega (arith, ints, near.min.top); bottom = omega (arith, ints, d, near.max.bottom) };
      max = record { left = near.max.left; right = near.max.right; top = omega (arith, ints, near.min.top); bottom = omega (arith, ints, d, near.max.bottom) };
    }

pub ordered_between : (r : Rect) (a b : ℕ) → IsOrdered r → a ≤ b → IsOrdered (rows_between r a b)
ordered_between r a b ordered le = record { across = ordered.across; down = omega (arith, ints) }

pub inside_between : (r : Rect) (a b : ℕ) → IsOrdered r → b ≤ height r → (p : Point) → holds (rows_between r a b) p ≡ true → holds r p ≡ true
inside_between r a b ordered high p inside =
    let d = distance_is r.min.y r.max.y ordered.down in
    let at = bounds_of (rows_between r a b) p inside in
    holds_from r p (record { left = at.left; right = at.right; top = omega (arith, ints, at.top); bottom = omega (arith, ints, d, at.bottom) })

-- ---- their bytes

height_between : (r : Rect) (a b : ℕ) → a ≤ b → height (rows_between r a b) ≡ b - a
height_between r a b le =
    let d = distance_is (r.min.y +ℤ pos a) (r.min.y +ℤ pos b) (omega (arith, ints)) in omega (arith, ints, d)

line_between : (r : Rect) (depth a b : ℕ) → row_bytes (rows_between r a b) depth ≡ row_bytes r depth
unfolding row_bytes
line_between r depth a b = refl

-- a pixel of a row, counted from the first of them
place_between : (r : Rect) (depth a b : ℕ) (pixel : Point → ℕ) (row n : ℕ) → row_place (rows_between r a b) depth pixel row n ≡ row_place r depth pixel (a + row) n
unfolding skip
place_between r depth a b pixel row n =
    let column = n - skip r depth in
    let same : point_at (rows_between r a b) column row ≡ point_at r column (a + row) = same_point (point_at (rows_between r a b) column row) (point_at r column (a + row)) refl (omega (arith, ints)) in
    λ j. if nat_le (skip r depth) n && nat_lt n (skip r depth + width r) then pixel (same j) else 0

-- byte k of the rows of a rectangle
byte_of : Rect → ℕ → (Point → ℕ) → (line k : ℕ) → ℕ
byte_of r depth pixel line k = byte_at depth (row_place r depth pixel (k / line)) (k % line)

byte_between : (r : Rect) (depth a b line : ℕ) (pixel : Point → ℕ) (k : ℕ) → 0 < line → byte_of (rows_between r a b) depth pixel line k ≡ byte_of r depth pixel line (a * line + k)
unfolding byte_of
byte_between r depth a b line pixel k some =
    (λ j. byte_at depth (λ n. place_between r depth a b pixel (k / line) n j) (k % line))
    ∙ (λ j. byte_at depth (row_place r depth pixel (sym (mul-add-div_right some a k) j)) (sym (mul-add-mod_self_right a line k) j))

length-rows_of : (r : Rect) (depth : ℕ) (pixel : Point → ℕ) → length (rows_of r depth pixel) ≡ row_bytes r depth * height r
unfolding rows_of byte_of
length-rows_of r depth pixel = length-map-range_with_len (byte_of r depth pixel (row_bytes r depth)) 0 (row_bytes r depth * height r)

get_or-rows_of : (r : Rect) (depth : ℕ) (pixel : Point → ℕ) (k : ℕ) → k < row_bytes r depth * height r → get_or (rows_of r depth pixel) k 0 ≡ byte_of r depth pixel (row_bytes r depth) k
unfolding rows_of byte_of
get_or-rows_of r depth pixel k below = get_or-map-range_with_len (byte_of r depth pixel (row_bytes r depth)) 0 (row_bytes r depth * height r) k k 0 below (omega arith)

pub rows_of-between : (r : Rect) (depth a n : ℕ) (pixel : Point → ℕ) → a + n ≤ height r
    → rows_of (rows_between r a (a + n)) depth pixel ≡ take (n * row_bytes r depth) (drop (a * row_bytes r depth) (rows_of r depth pixel))
rows_of-between r depth a n pixel high =
    let line = row_bytes r depth in
    let part = rows_between r a (a + n) in
    let all = rows_of r depth pixel in
    let rows : height part ≡ n = height_between r a (a + n) (omega arith) ∙ omega arith in
    let own : length (rows_of part depth pixel) ≡ line * n = length-rows_of part depth pixel ∙ (λ j. line_between r depth a (a + n) j * rows j) in
    let whole : length all ≡ line * height r = length-rows_of r depth pixel in
    let fits : line * (a + n) ≤ line * height r = mul-le line (a + n) line (height r) (omega arith) high in
    let kept : length (take (n * line) (drop (a * line) all)) ≡ n * line = length-take (n * line) (drop (a * line) all) ∙ omega (arith, whole, fits, length-drop (a * line) all) in
    ext_get_or 0 (rows_of part depth pixel) (take (n * line) (drop (a * line) all)) (omega (arith, own, kept)) (λ i below.
    let here : i < line * n = omega (arith, below, own) in
    let inner : i < row_bytes part depth * height part = omega (arith, below, length-rows_of part depth pixel) in
    get_or-rows_of part depth pixel i inner
    ∙ ap (λ l. byte_of part depth pixel l i) (line_between r depth a (a + n))
    ∙ byte_between r depth a (a + n) line pixel i (positive line n i here)
    ∙ sym (get_or-rows_of r depth pixel (a * line + i) (omega (arith, here, fits)))
    ∙ sym (get_or-take (n * line) (drop (a * line) all) i 0 (omega (arith, here)) ∙ get_or-drop (a * line) all i 0))
  where
    positive : (line n i : ℕ) → i < line * n → 0 < line
    positive line n i below = grind arith

-- ---- a part of a piece of rows is one of all rows

-- of all bytes, 1 + k rows from row a on have what a part asks for that begins in row a
piece : (line h a k before len inside : ℕ) (all : List ℕ) → length all ≡ line * h → a * line + inside ≡ before → inside < line → a + (1 + k) ≤ h
    → (before + len ≤ (a + (1 + k)) * line) ⊎ (a + (1 + k) ≡ h)
    → take len (drop inside (take ((1 + k) * line) (drop (a * line) all))) ≡ take len (drop before all)
piece line h a k before len inside all long begins low high ends =
    let m = (1 + k) * line - inside in
    let whole : (1 + k) * line ≡ inside + m = omega (arith, low) in
    (λ j. take len (drop inside (take (whole j) (drop (a * line) all))))
    ∙ ap (take len) (drop-take inside m (drop (a * line) all) ∙ ap (take m) (drop-drop inside (a * line) all ∙ ap (λ n. drop n all) begins))
    ∙ ⊎_elim
    (λ within. take-take len m (drop before all) (omega (arith, within, begins, low)))
    (λ last. ap (take len) (take_all m (drop before all) (omega (arith, ap (λ n. line * n) last, begins, low, long, length-drop before all))))
    ends

nothing : (n a m : ℕ) (xs : List ℕ) → m ≡ 0 → take n (drop a (take m xs)) ≡ []
nothing n a m xs none = nil_from_length (take n (drop a (take m xs))) (omega (arith, none, length-take n (drop a (take m xs)), length-drop a (take m xs), length-take m xs))

-- what holds 1 + k rows from the one that a part begins in
some_rows : (r : Rect) (depth before len q k : ℕ) (pixel : Point → ℕ) → 0 < row_bytes r depth → q ≡ before / row_bytes r depth → q + (1 + k) ≤ height r
    → (before + len ≤ (q + (1 + k)) * row_bytes r depth) ⊎ (q + (1 + k) ≡ height r)
    → take len (drop (before % row_bytes r depth) (rows_of (rows_between r q (q + (1 + k))) depth pixel)) ≡ take len (drop before (rows_of r depth pixel))
some_rows r depth before len q k pixel some row high ends =
    let line = row_bytes r depth in
    let all = rows_of r depth pixel in
    let begins : q * line + before % line ≡ before = ap (λ n. n * line + before % line) row ∙ div-add-mod' before line in
    ap (λ rows. take len (drop (before % line) rows)) (rows_of-between r depth q (1 + k) pixel high)
    ∙ piece line (height r) q k before len (before % line) all (length-rows_of r depth pixel) begins (mod_below before line some) high ends

both_some : (m n : ℕ) → ((m == 0) || (n == 0)) ≡ false → (0 < m) × (0 < n)
both_some m n e = (grind (arith, nat_tests), grind (arith, nat_tests))

one_none : (m n : ℕ) → ((m == 0) || (n == 0)) ≡ true → 0 < m → 0 < n → ⊥
one_none m n e some more = grind (arith, nat_tests)

none_left : (line len before h : ℕ) (all : List ℕ) → length all ≡ line * h → ((line == 0) || (len == 0)) ≡ true → take len (drop before all) ≡ []
none_left zero len before h all long e = nil_from_length (take len (drop before all)) (omega (arith, long, length-take len (drop before all), length-drop before all))
none_left (suc line) zero before h all long e = refl
none_left (suc line) (suc len) before h all long e = absurd (one_none (suc line) (suc len) e (omega arith) (omega arith))

no_row : (r : Rect) (depth before len : ℕ) (pixel : Point → ℕ) → ((row_bytes r depth == 0) || (len == 0)) ≡ true
    → take len (drop (before % row_bytes r depth) (rows_of (rows_between r 0 0) depth pixel)) ≡ take len (drop before (rows_of r depth pixel))
no_row r depth before len pixel e =
    let line = row_bytes r depth in
    let all = rows_of r depth pixel in
    ap (λ rows. take len (drop (before % line) rows)) (rows_of-between r depth 0 0 pixel (omega arith))
    ∙ nothing len (before % line) (0 * line) (drop (0 * line) all) (omega arith)
    ∙ sym (none_left line len before (height r) all (length-rows_of r depth pixel) e)

-- the last byte is in its row
last_row : (line before len q e : ℕ) → 0 < line → 0 < len → q ≡ before / line → e ≡ (before + len - 1) / line → (q ≤ e) × (before + len ≤ (e + 1) * line)
last_row line before len q e some asked row last =
    let own = div-add-mod' before line in
    let others = div-add-mod' (before + len - 1) line in
    let within = mod_below (before + len - 1) line some in
    let before_it : q * line ≤ before + len - 1 = omega (arith, own, ap (λ n. n * line) row) in
    let low = le-div q (before + len - 1) line some before_it in
    (omega (arith, low, last), omega (arith, others, within, ap (λ n. n * line) last))

rows_here : (r : Rect) (depth before len q e : ℕ) (pixel : Point → ℕ) → 0 < row_bytes r depth → 0 < len → q ≡ before / row_bytes r depth → e ≡ (before + len - 1) / row_bytes r depth → q < height r
    → take len (drop (before % row_bytes r depth) (rows_of (rows_between r (min q (height r)) (min (e + 1) (height r))) depth pixel)) ≡ take len (drop before (rows_of r depth pixel))
rows_here r depth before len q e pixel some asked row last below =
    let line = row_bytes r depth in
    let h = height r in
    let at = last_row line before len q e some asked row last in
    let first : min q h ≡ q = omega (arith, below) in
    let k = min (e + 1) h - (q + 1) in
    let end : min (e + 1) h ≡ q + (1 + k) = omega (arith, below, at.0) in
    let ends : (before + len ≤ (q + (1 + k)) * line) ⊎ (q + (1 + k) ≡ h) =
    ⊎_elim
    (λ cut. inr (omega (arith, cut, end)))
    (λ whole. let same : e + 1 ≡ q + (1 + k) = omega (arith, whole, end) in inl (omega (arith, at.1, ap (λ n. n * line) same)))
    (cases_lt h (e + 1)) in
    (λ j. take len (drop (before % line) (rows_of (rows_between r (first j) (end j)) depth pixel)))
    ∙ some_rows r depth before len q k pixel some row (omega (arith, end)) ends

rows_past : (r : Rect) (depth before len q e : ℕ) (pixel : Point → ℕ) → 0 < row_bytes r depth → 0 < len → q ≡ before / row_bytes r depth → e ≡ (before + len - 1) / row_bytes r depth → height r ≤ q
    → take len (drop (before % row_bytes r depth) (rows_of (rows_between r (min q (height r)) (min (e + 1) (height r))) depth pixel)) ≡ take len (drop before (rows_of r depth pixel))
rows_past r depth before len q e pixel some asked row last past =
    let line = row_bytes r depth in
    let h = height r in
    let all = rows_of r depth pixel in
    let at = last_row line before len q e some asked row last in
    let first : min q h ≡ h = omega (arith, past) in
    let end : min (e + 1) h ≡ h + 0 = omega (arith, past, at.0) in
    let behind : length all ≤ before =
    omega (arith, length-rows_of r depth pixel, mul-le h line q line past (omega arith), div-add-mod' before line, ap (λ n. n * line) row) in
    (λ j. take len (drop (before % line) (rows_of (rows_between r (first j) (end j)) depth pixel)))
    ∙ ap (λ rows. take len (drop (before % line) rows)) (rows_of-between r depth h 0 pixel (omega arith))
    ∙ nothing len (before % line) (0 * line) (drop (h * line) all) (omega arith)
    ∙ sym (ap (take len) (drop_all before all behind) ∙ take_all len [] (omega arith))

rows_with-part : (r : Rect) (depth before len : ℕ) (pixel : Point → ℕ)
    → take len (drop (before % row_bytes r depth) (rows_of (rows_with r (row_bytes r depth) before len) depth pixel)) ≡ take len (drop before (rows_of r depth pixel))
rows_with-part r depth before len pixel = by_cases ((row_bytes r depth == 0) || (len == 0)) refl
  where
    by_cases : (b : Bool) → ((row_bytes r depth == 0) || (len == 0)) ≡ b
        → take len (drop (before % row_bytes r depth) (rows_of (if b then rows_between r 0 0 else rows_between r (min (before / row_bytes r depth) (height r)) (min ((before + len - 1) / row_bytes r depth + 1) (height r))) depth pixel))
        ≡ take len (drop before (rows_of r depth pixel))
    by_cases true e = no_row r depth before len pixel e
    by_cases false e =
        let some = both_some (row_bytes r depth) len e in
        ⊎_elim
        (λ below. rows_here r depth before len (before / row_bytes r depth) ((before + len - 1) / row_bytes r depth) pixel some.0 some.1 refl refl below)
        (λ past. rows_past r depth before len (before / row_bytes r depth) ((before + len - 1) / row_bytes r depth) pixel some.0 some.1 refl refl past)
        (cases_lt (before / row_bytes r depth) (height r))

pub rows_part : (chan : ℕ) (r : Rect) (offset count : ℕ) (pixel : Point → ℕ)
    → take (part_len offset count) (drop (before_part offset % row_bytes r (channels.depth chan)) (rows_of (touched chan r offset count) (channels.depth chan) pixel))
    ≡ take (part_len offset count) (drop (before_part offset) (rows_of r (channels.depth chan) pixel))
unfolding touched
rows_part chan r offset count pixel = rows_with-part r (channels.depth chan) (before_part offset) (part_len offset count) pixel

-- ---- the rows as they are counted

pub rows_with-counted : (r : Rect) (line before len first end : ℕ) → 0 < line → 0 < len → first ≡ min (before / line) (height r) → end ≡ min (first + (before % line + len - 1) / line + 1) (height r)
    → rows_between r first end ≡ rows_with r line before len
rows_with-counted r line before len first end some asked low high =
    let h = height r in
    let q = before / line in
    let x = before % line + len - 1 in
    let sum : q * line + x ≡ before + len - 1 = omega (arith, div-add-mod' before line, asked) in
    let last : (before + len - 1) / line ≡ q + x / line = ap (λ n. n / line) (sym sum) ∙ mul-add-div_right some q x in
    let ends : end ≡ min ((before + len - 1) / line + 1) h = omega (arith, high, low, last) in
    (λ j. rows_between r (low j) (ends j)) ∙ counted (line == 0) (len == 0) (none_of line some) (none_of len asked)
  where
    none_of : (n : ℕ) → 0 < n → (n == 0) ≡ false
    none_of n some = grind (arith, nat_tests)

    counted : (a b : Bool) → a ≡ false → b ≡ false
        → rows_between r (min (before / line) (height r)) (min ((before + len - 1) / line + 1) (height r))
        ≡ (if a || b then rows_between r 0 0 else rows_between r (min (before / line) (height r)) (min ((before + len - 1) / line + 1) (height r)))
    counted a b left right = rw (left, right) refl

pub part_is : (chan : ℕ) (r : Rect) (rows : List ℕ) (offset count : ℕ) (pixel : Point → ℕ) → IsRectNearBy (2 ^ 33) r → rows ≡ rows_of (touched chan r offset count) (channels.depth chan) pixel
    → take count (drop offset (file_header chan r)) ++ take (count - length (take count (drop offset (file_header chan r)))) (drop (before_part offset % row_bytes r (channels.depth chan)) rows)
    ≡ file_part (image_file chan r (rows_of r (channels.depth chan) pixel)) offset count
part_is chan r rows offset count pixel near is =
    let head = file_header chan r in
    let front = take count (drop offset head) in
    let long : length head ≡ 60 = length-file_header chan r near in
    let left : count - length front ≡ part_len offset count = omega (arith, long, length-take count (drop offset head), length-drop offset head) in
    let behind : offset - length head ≡ before_part offset = omega (arith, long) in
    (λ j. front ++ take (left j) (drop (before_part offset % row_bytes r (channels.depth chan)) (is j)))
    ∙ ap (λ (piece : List ℕ). front ++ piece) (rows_part chan r offset count pixel)
    ∙ sym (part-append offset count head (rows_of r (channels.depth chan) pixel) ∙ (λ j. front ++ take (left j) (drop (behind j) (rows_of r (channels.depth chan) pixel))))
