-- Rows of whole pixels are the bytes that a plane keeps.
use Rattle.std.proofs.Common.{◌≡◌, ◌∙◌, ◌+◌, ◌-◌, ◌*◌, ◌/◌, ◌%◌, ◌<◌, ◌≤◌, ◌++◌, ℕ, zero, suc, true, List, [], length, take, drop, get_or, ap, sym, subst, refl, arith, ⊎_elim}
use Rattle.std.proofs.Math.Nat.{div-add-mod, div-lt_iff_lt-mul, mod-lt, mul_comm}
use Rattle.std.proofs.lemmas.Bool.{cases_lt}
use Rattle.std.proofs.lemmas.List.{append-nil, drop_all, get_or_append_left, get_or-append_right, get_or-drop, get_or-take, length-append, length-drop, length-take-le, take_all, take_at}
use Rattle.std.proofs.lemmas.List.FromFn.{fill_by_all}
use Rattle.std.proofs.lemmas.Nat.{mul-le}
use Rattle.r9_geom.specs.declared.Rect.{Rect}
use Rattle.r9_geom.specs.Geometry.{height, holds, point_at, width, IsOrdered, IsRectNear}
use Rattle.model_pixel.specs.Channels.{depth, is_depth}
use Rattle.model_pixel.specs.Rows.{byte_at, raw_at, row_bytes, row_place, rows_of}
use Rattle.r9_plane.specs.Blocks.{HasPacked}
use Rattle.r9_plane.specs.Lines.{lines_of}
use Rattle.r9_plane.specs.Pixels.{along, number_of, pixel_of}
use Rattle.r9_plane.proofs.Among.{number_in_plane, IsPart}
use Rattle.r9_plane.proofs.PackedLemmas.{raw_at_whole, size_of}
use Rattle.r9_plane.proofs.PlaneLemmas.{pixel_inside, row_lies, whole_line}
use Rattle.r9_plane.proofs.Rectangles.{along_in, row_along}
use Rattle.r9_plane.proofs.RowLemmas.{whole_row}
use Rattle.r9_plane.proofs.RunLemmas.{little-moved, whole_fits}

-- ---- lines

-- the lines are among the bytes
abbrev pub HasLines : (first across line count size : ℕ) → Type 0
HasLines first across line count size = (n : ℕ) → n < count → first + n * across + line ≤ size

pub lines_step : (bytes : List ℕ) (first across line n : ℕ) → lines_of bytes first across line (n + 1) ≡ lines_of bytes first across line n ++ take line (drop (first + n * across) bytes)
lines_step bytes first across line n = let next : n + 1 ≡ suc n = omega arith in ap (lines_of bytes first across line) next

lines_long : (bytes : List ℕ) (first across line count : ℕ) → HasLines first across line count (length bytes) → length (lines_of bytes first across line count) ≡ count * line
lines_long bytes first across line zero fits = omega arith
lines_long bytes first across line (suc n) fits =
    let at = first + n * across in
    let long = length-take-le line (drop at bytes) (omega (arith, length-drop at bytes, fits n (omega arith))) in
    omega (arith, length-append (lines_of bytes first across line n) (take line (drop at bytes)), long, lines_long bytes first across line n (λ m h. fits m (omega (arith, h))))

-- one more line at the end
line_more : (rows more bytes : List ℕ) (count line across first : ℕ) → length rows ≡ count * line → ((i : ℕ) → i < line → get_or more i 0 ≡ get_or bytes (first + count * across + i) 0) → ((n i : ℕ) → n < count → i < line → get_or rows (n * line + i) 0 ≡ get_or bytes (first + n * across + i) 0) → (n i : ℕ) → n < count + 1 → i < line → get_or (rows ++ more) (n * line + i) 0 ≡ get_or bytes (first + n * across + i) 0
line_more rows more bytes count line across first size now earlier n i below within =
    ⊎_elim
    (λ (e : n < count).
    let early = mul-le (n + 1) line count line (omega arith) (omega arith) in
    get_or_append_left rows more 0 (n * line + i) (omega (arith, early, size, within)) ∙ earlier n i e within)
    (λ (e : count ≤ n).
    let same : n ≡ count = omega arith in
    let here : n * line ≡ count * line = ap (λ m. m * line) same in
    let place : n * line + i - count * line ≡ i = omega (arith, here) in
    get_or-append_right rows more (count * line) (n * line + i) 0 size (omega (arith, here))
    ∙ ap (λ m. get_or more m 0) place
    ∙ now i within
    ∙ ap (λ m. get_or bytes (first + m * across + i) 0) (sym same))
    (cases_lt n count)

lines_at : (bytes : List ℕ) (first across line count : ℕ) → HasLines first across line count (length bytes) → (n i : ℕ) → n < count → i < line → get_or (lines_of bytes first across line count) (n * line + i) 0 ≡ get_or bytes (first + n * across + i) 0
lines_at bytes first across line zero fits n i below within = absurd (omega (arith, below))
lines_at bytes first across line (suc m) fits n i below within =
    let at = first + m * across in
    line_more (lines_of bytes first across line m) (take line (drop at bytes)) bytes m line across first
    (lines_long bytes first across line m (λ k h. fits k (omega (arith, h))))
    (λ k h. get_or-take line (drop at bytes) k 0 h ∙ get_or-drop at bytes k 0)
    (λ k j h l. lines_at bytes first across line m (λ o e. fits o (omega (arith, e))) k j h l)
    n i (omega (arith, below)) within

-- ---- rows

-- a raw pixel of a row, in the plane
row_raw : (whole r : Rect) (chan : ℕ) (bytes : List ℕ) (row i : ℕ) → IsOrdered r → IsPart whole r → holds whole r.min ≡ true → row < height r → i < width r → raw_at (depth chan) bytes (number_of whole r.min + row * width whole + i) ≡ pixel_of whole chan bytes (along (point_at r 0 row) i)
row_raw whole r chan bytes row i ordered lies first early within =
    let p = along (point_at r 0 row) i in
    let inside = row_lies r r row ordered early (λ q h. h) p (along_in (point_at r 0 row) (width r) i within) in
    ap (raw_at (depth chan) bytes) (sym (row_along r row i (number_of whole r.min) (width whole) (width r) refl within) ∙ number_in_plane whole r p first inside)
    ∙ sym (pixel_inside whole chan bytes p (lies p inside))

-- a byte of a row
row_byte : (whole r : Rect) (chan : ℕ) (bytes : List ℕ) (row k : ℕ) → IsOrdered r → IsPart whole r → holds whole r.min ≡ true → is_depth (depth chan) ≡ true → 8 ≤ depth chan → ((i : ℕ) → get_or bytes i 0 < 256) → row < height r → k < width r * (depth chan / 8) → get_or bytes (number_of whole r.min * (depth chan / 8) + row * (width whole * (depth chan / 8)) + k) 0 ≡ byte_at (depth chan) (row_place r (depth chan) (pixel_of whole chan bytes) row) k
row_byte whole r chan bytes row k ordered lies first is some range early within =
    let bits = depth chan in
    let size = bits / 8 in
    let bits_are = size_of bits is some in
    let one : 0 < size = omega (arith, bits_are, some) in
    let number = number_of whole r.min + row * width whole in
    let at = number_of whole r.min * size + row * (width whole * size) in
    let line = drop at bytes in
    sym (get_or-drop at bytes k 0)
    ∙ whole_line r bits (pixel_of whole chan bytes) row k line is some
    ((div-lt_iff_lt-mul {k = size} {x = k} {y = width r} one).1 within)
    (λ j. subst (λ (v : ℕ). v < 256) (sym (get_or-drop at bytes j 0)) (range (at + j)))
    (λ i h.
    raw_at_whole bits size line i one bits_are
    ∙ little-moved size line bytes (size * i) (size * (number + i))
    (λ j l. get_or-drop at bytes (size * i + j) 0 ∙ ap (λ n. get_or bytes n 0) (omega arith))
    ∙ sym (raw_at_whole bits size bytes (number + i) one bits_are)
    ∙ row_raw whole r chan bytes row i ordered lies first early h)

pub rows_among : (whole r : Rect) (bits size : ℕ) → is_depth bits ≡ true → 8 ≤ bits → HasPacked r (number_of whole r.min) (width whole) bits size → HasLines (number_of whole r.min * (bits / 8)) (width whole * (bits / 8)) (width r * (bits / 8)) (height r) size
rows_among whole r bits size is some rows n early =
    let fits = whole_fits bits (number_of whole r.min + n * width whole + width r) size is some (rows.fits n early) in
    omega (arith, fits)

-- the lines are the rows
pub lines_are_rows : (whole r : Rect) (chan : ℕ) (bytes : List ℕ) → IsRectNear r → IsOrdered r → IsPart whole r → holds whole r.min ≡ true → is_depth (depth chan) ≡ true → 8 ≤ depth chan → 0 < width r → HasPacked r (number_of whole r.min) (width whole) (depth chan) (length bytes) → ((i : ℕ) → get_or bytes i 0 < 256) → lines_of bytes (number_of whole r.min * (depth chan / 8)) (width whole * (depth chan / 8)) (width r * (depth chan / 8)) (height r) ≡ rows_of r (depth chan) (pixel_of whole chan bytes)
unfolding rows_of
lines_are_rows whole r chan bytes near ordered lies first is some wide among range =
    let bits = depth chan in
    let size = bits / 8 in
    let line = row_bytes r bits in
    let line_is : line ≡ width r * size = whole_row r bits near ordered is some in
    let bits_are = size_of bits is some in
    let one : 0 < size = omega (arith, bits_are, some) in
    let more = mul-le 1 size (width r) size (omega (arith, wide)) (omega arith) in
    let any : 0 < line = omega (arith, line_is, more, one) in
    let fits = rows_among whole r bits (length bytes) is some among in
    let rows = lines_of bytes (number_of whole r.min * size) (width whole * size) (width r * size) (height r) in
    let long = lines_long bytes (number_of whole r.min * size) (width whole * size) (width r * size) (height r) fits in
    let all : line * height r ≡ height r * (width r * size) = ap (λ n. n * height r) line_is ∙ mul_comm (width r * size) (height r) in
    fill_by_all (λ k. byte_at bits (row_place r bits (pixel_of whole chan bytes) (k / line)) (k % line)) rows (line * height r) 0
    (omega (arith, long, all))
    (λ k below.
    let row = k / line in
    let i = k % line in
    let early : row < height r = (div-lt_iff_lt-mul {k = line} {x = k} {y = height r} any).1 (omega (arith, below, mul_comm line (height r))) in
    let within : i < width r * size = omega (arith, mod-lt k any, line_is) in
    let place : row * (width r * size) + i ≡ k = ap (λ n. row * n + i) (sym line_is) ∙ omega (arith, div-add-mod k line, mul_comm line row) in
    ap (λ n. get_or rows n 0) (sym place)
    ∙ lines_at bytes (number_of whole r.min * size) (width whole * size) (width r * size) (height r) fits row i early within
    ∙ row_byte whole r chan bytes row i ordered lies first is some range early within)

-- ---- small pixels

-- what is written behind the first bytes stands behind them
pub behind_put : (front reserved resized rows more : List ℕ) (len n k : ℕ) → reserved ≡ front → length front ≡ len → len ≤ n → resized ≡ take n reserved ++ more → length resized ≤ len + k → take len resized ++ (rows ++ drop k (drop len resized)) ≡ front ++ rows
behind_put front reserved resized rows more len n k same long below is all =
    let whole : resized ≡ front ++ more = is ∙ ap (λ xs. xs ++ more) (ap (take n) same ∙ take_all n front (omega (arith, long, below))) in
    let start : take len resized ≡ front = ap (take len) whole ∙ take_at front more len long in
    let none : drop k (drop len resized) ≡ [] = drop_all k (drop len resized) (omega (arith, length-drop len resized, all)) in
    (λ t. start t ++ (rows ++ none t)) ∙ ap (λ xs. front ++ xs) (append-nil rows)
