-- A plane as a map from points to raw pixels.
use Rattle.std.proofs.Common.{◌≡◌, ℕ, ◌^◌, ◌%◌, ◌/◌, ◌+◌, ◌-◌, ◌*◌, ◌<◌, ◌≤◌, ◌≢◌, Bool, true, false, ◌||◌, refl, ap, ◌∙◌, sym, arith, ⊎_elim, List, pos, ◌+ℤ◌, take, drop, get_or, length, length-drop}
use Rattle.std.proofs.Math.Seq.{take-length}
use Rattle.std.specs.Prelude.{if◌then◌else◌, ◌&&◌, ◌==◌, nat_le, nat_lt}
use Rattle.std.proofs.lemmas.Bool.{cond-true, cond-false, cases_Bool, both_ways, false_from_ne_true}
use Rattle.std.proofs.lemmas.Nat.{mul-add-lt, same_from_place, mul-le}
use Rattle.r9_geom.specs.declared.Point.{Point}
use Rattle.r9_geom.specs.declared.Rect.{Rect}
use Rattle.r9_geom.specs.Geometry.{carried, distance, height, holds, is_point, point_at, strip, width, IsOrdered}
use Rattle.r9_geom.proofs.GeometryLemmas.{band, band_more, band_none, bounds_of, cell_of, distance_is, holds_from, row_inside, strip_distance, strip_here, is_point_true, same_point, true_is_point}
use Rattle.model_pixel.specs.Channels.{depth, is_depth}
use Rattle.model_pixel.specs.Rows.{byte_at, raw_at, row_place, skip}
use Rattle.std.proofs.lemmas.Int.{ints}
use Rattle.std.proofs.lemmas.Bool.{and_from, cases_eq, cases_lt, le-leb, lt-leb, lt-ltb, le-ltb}
use Rattle.std.proofs.Math.Bool.{and-false}
use Rattle.r9_plane.specs.Pixels.{along, number_of, pixel_of}
use Rattle.r9_plane.proofs.PackedLemmas.{byte_whole}
use Rattle.r9_plane.proofs.RowLemmas.{skip_whole}
use Rattle.r9_plane.proofs.RunLemmas.{Copied, byte_back, raw_zero}

-- the number of a point's pixel is one of the rectangle's, and no other point has it
pub number_below : (r : Rect) (p : Point) → holds r p ≡ true → number_of r p < height r * width r
number_below r p h =
    let cell = cell_of r p h in
    let below = mul-add-lt (distance r.min.y p.y) (width r) (distance r.min.x p.x) (height r) cell.row cell.column in
    omega (arith, below)

pub number_fits : (n count bits size : ℕ) → n < count → count * bits ≤ 8 * size → (n + 1) * bits ≤ 8 * size
number_fits n count bits size below fits =
    let more = mul-le (n + 1) bits count bits (omega arith) (omega arith) in omega (arith, more, fits)

pub number_tells : (r : Rect) (p q : Point) → holds r p ≡ true → holds r q ≡ true → number_of r p ≡ number_of r q → p ≡ q
number_tells r p q in_p in_q same =
    let a = cell_of r p in_p in
    let b = cell_of r q in_q in
    let parts = same_from_place (distance r.min.y p.y) (distance r.min.x p.x) (distance r.min.y q.y) (distance r.min.x q.x) (width r) a.column b.column same in
    same_point p q
    (sym a.left ∙ ap (λ n. r.min.x +ℤ pos n) parts.1 ∙ b.left)
    (sym a.top ∙ ap (λ n. r.min.y +ℤ pos n) parts.0 ∙ b.top)

-- what a plane shows at a point, within its rectangle and outside
pub pixel_inside : (r : Rect) (chan : ℕ) (bytes : List ℕ) (p : Point) → holds r p ≡ true → pixel_of r chan bytes p ≡ raw_at (depth chan) bytes (number_of r p)
unfolding pixel_of
pixel_inside r chan bytes p h = cond-true (holds r p) _ _ h

pub pixel_outside : (r : Rect) (chan : ℕ) (bytes : List ℕ) (p : Point) → holds r p ≡ false → pixel_of r chan bytes p ≡ 0
unfolding pixel_of
pixel_outside r chan bytes p h = cond-false (holds r p) _ _ h

-- new bytes are old ones but for the pixel at p
pub record Puts (r : Rect) (chan : ℕ) (old new : List ℕ) (p : Point) (raw : ℕ) : Type 0 where
  pub inside : holds r p ≡ true
  pub written : raw_at (depth chan) new (number_of r p) ≡ raw
  pub others : (n : ℕ) → n ≢ number_of r p → raw_at (depth chan) new n ≡ raw_at (depth chan) old n

put_inside : (r : Rect) (chan : ℕ) (old new : List ℕ) (p : Point) (raw : ℕ) → Puts r chan old new p raw → (q : Point) → holds r q ≡ true → pixel_of r chan new q ≡ (if is_point q p then raw else pixel_of r chan old q)
put_inside r chan old new p raw put q inside =
    pixel_inside r chan new q inside
    ∙ ⊎_elim
    (λ (h : is_point q p ≡ true).
    ap (λ v. raw_at (depth chan) new (number_of r v)) (is_point_true q p h) ∙ put.written
    ∙ sym (cond-true (is_point q p) raw (pixel_of r chan old q) h))
    (λ (h : is_point q p ≡ false).
    put.others (number_of r q) (λ same. both_ways _ h (true_is_point q p (number_tells r q p inside put.inside same)))
    ∙ sym (pixel_inside r chan old q inside) ∙ sym (cond-false (is_point q p) raw (pixel_of r chan old q) h))
    (cases_Bool (is_point q p))

put_outside : (r : Rect) (chan : ℕ) (old new : List ℕ) (p : Point) (raw : ℕ) → Puts r chan old new p raw → (q : Point) → holds r q ≡ false → pixel_of r chan new q ≡ (if is_point q p then raw else pixel_of r chan old q)
put_outside r chan old new p raw put q outside =
    let other : is_point q p ≡ false = false_from_ne_true _ (λ h. both_ways (holds r q) outside (ap (holds r) (is_point_true q p h) ∙ put.inside)) in
    pixel_outside r chan new q outside
    ∙ sym (pixel_outside r chan old q outside) ∙ sym (cond-false (is_point q p) raw (pixel_of r chan old q) other)

pub put_pixels : (r : Rect) (chan : ℕ) (old new : List ℕ) (p : Point) (raw : ℕ) → Puts r chan old new p raw → (q : Point) → pixel_of r chan new q ≡ (if is_point q p then raw else pixel_of r chan old q)
put_pixels r chan old new p raw put q =
    ⊎_elim (put_inside r chan old new p raw put q) (put_outside r chan old new p raw put q) (cases_Bool (holds r q))

-- a choice that grows by one more place
grown : (a b c : Bool) (x y z : ℕ) → c ≡ (a || b) → (a ≡ true → x ≡ y) → (if a then x else (if b then y else z)) ≡ (if c then y else z)
grown true b c x y z h same = same refl ∙ sym (cond-true c y z h)
grown false b c x y z h same = ap (λ v. if v then y else z) (sym h)

-- packed pixels of one raw value
pub filled_pixels : (r : Rect) (chan raw : ℕ) (bytes : List ℕ) → ((n : ℕ) → n < height r * width r → raw_at (depth chan) bytes n ≡ raw) → (p : Point) → pixel_of r chan bytes p ≡ (if holds r p then raw else 0)
filled_pixels r chan raw bytes all p =
    ⊎_elim
    (λ (h : holds r p ≡ true). pixel_inside r chan bytes p h ∙ all (number_of r p) (number_below r p h) ∙ sym (cond-true _ raw 0 h))
    (λ (h : holds r p ≡ false). pixel_outside r chan bytes p h ∙ sym (cond-false _ raw 0 h))
    (cases_Bool (holds r p))

-- one more row of a rectangle was written
pub band_grows : (r : Rect) (at q : Point) (n row value mid old new : ℕ) → IsOrdered r → at.x ≡ r.min.x → at.y ≡ r.min.y +ℤ pos n → new ≡ (if holds (strip at (width r)) q then row else mid) → mid ≡ (if holds (band r n) q then value else old) → (holds (strip at (width r)) q ≡ true → row ≡ value) → new ≡ (if holds (band r (n + 1)) q then value else old)
band_grows r at q n row value mid old new ordered x y put before here =
    put ∙ ap (λ v. if holds (strip at (width r)) q then row else v) before
    ∙ grown (holds (strip at (width r)) q) (holds (band r n) q) (holds (band r (n + 1)) q) row value old (band_more r at q n ordered x y) here

pub band_begins : (r : Rect) (q : Point) (value old : ℕ) → old ≡ (if holds (band r 0) q then value else old)
band_begins r q value old = sym (cond-false _ value old (band_none r q))

-- the lines from a row on
pub lines_left : (row rows line size : ℕ) → row < rows → size ≡ line * rows → line ≤ size - row * line
lines_left row rows line size below is =
    let more : row + 1 ≤ rows = omega arith in
    let product = mul-le (row + 1) line rows line more (omega arith) in
    omega (arith, product, is)

-- `&xs[a..]`
pub rest_is : {A : Type 0} (xs : List A) (a : ℕ) → take (length xs - a) (drop a xs) ≡ drop a xs
rest_is xs a = ap (λ n. take n (drop a xs)) (sym (length-drop a xs)) ∙ take-length (drop a xs)

-- ---- runs of a row

-- what is not empty has a length
pub some_of : (n : ℕ) {b : Bool} → b ≡ (n == 0) → b ≡ false → 0 < n
some_of n {b} is not_so =
    ⊎_elim
    (λ (h : n ≡ 0). absurd (both_ways b not_so (is ∙ ap (λ v. v == 0) h)))
    (λ (h : n ≢ 0). omega arith)
    (cases_eq n 0)

-- the columns of a row, counted from the left edge
pub column_along : (r : Rect) (at : Point) (i : ℕ) → holds r at ≡ true → distance r.min.x (along at i).x ≡ distance r.min.x at.x + i
column_along r at i h =
    let cell = cell_of r at h in
    strip_distance r.min (along at i) (distance r.min.x at.x + i) (omega (arith, ints, cell.left))

pub number_along : (r : Rect) (at : Point) (i : ℕ) → holds r at ≡ true → number_of r (along at i) ≡ number_of r at + i
number_along r at i h = ap (λ n. distance r.min.y at.y * width r + n) (column_along r at i h) ∙ omega arith

-- a strip lies within a rectangle
abbrev pub Lies : Rect → Point → ℕ → Type 0
Lies r at n = (p : Point) → holds (strip at n) p ≡ true → holds r p ≡ true

pub along_holds : (at : Point) (n i : ℕ) → i < n → holds (strip at n) (along at i) ≡ true
along_holds at n i h = strip_here at (along at i) i n refl refl h

pub start_in : (r : Rect) (at : Point) (n : ℕ) → 0 < n → Lies r at n → holds r at ≡ true
start_in r at n some lies = lies at (strip_here at at 0 n (omega (arith, ints)) refl some)

-- and does not pass its right edge
pub run_narrow : (r : Rect) (at : Point) (n : ℕ) → 0 < n → Lies r at n → distance r.min.x at.x + n ≤ width r
run_narrow r at n some lies =
    let first = cell_of r at (start_in r at n some lies) in
    let last = cell_of r (along at (n - 1)) (lies (along at (n - 1)) (along_holds at n (n - 1) (omega arith))) in
    let column = column_along r at (n - 1) (start_in r at n some lies) in
    omega (arith, column, last.column)

pub run_below : (r : Rect) (at : Point) (n : ℕ) → 0 < n → Lies r at n → number_of r at + n ≤ height r * width r
run_below r at n some lies =
    let last : n - 1 < n = omega arith in
    let below = number_below r (along at (n - 1)) (lies (along at (n - 1)) (along_holds at n (n - 1) last)) in
    let number = number_along r at (n - 1) (start_in r at n some lies) in
    omega (arith, below, number)

pub run_fits : (r : Rect) (at : Point) (n number bits size : ℕ) → 0 < n → Lies r at n → number ≡ number_of r at → height r * width r * bits ≤ 8 * size → (number + n) * bits ≤ 8 * size
run_fits r at n number bits size some lies is room =
    let below = run_below r at n some lies in
    let most : number + n ≤ height r * width r = omega (arith, below, is) in
    let more = mul-le (number + n) bits (height r * width r) bits most (omega arith) in
    omega (arith, more, room)

-- a point of a strip, so many from its start
strip_point : (at q : Point) (n : ℕ) → holds (strip at n) q ≡ true → (distance at.x q.x < n) × (along at (distance at.x q.x) ≡ q)
strip_point at q n h =
    let b = bounds_of (strip at n) q h in
    let d = distance_is at.x q.x b.left in
    (omega (arith, ints, d, b.right), same_point (along at (distance at.x q.x)) q d (omega (arith, ints, b.top, b.bottom)))

pub row_read : (r : Rect) (chan : ℕ) (bytes : List ℕ) (at : Point) (n i : ℕ) → Lies r at n → i < n → raw_at (depth chan) bytes (number_of r at + i) ≡ pixel_of r chan bytes (along at i)
row_read r chan bytes at n i lies h =
    let some : 0 < n = omega arith in
    ap (raw_at (depth chan) bytes) (sym (number_along r at i (start_in r at n some lies)))
    ∙ sym (pixel_inside r chan bytes (along at i) (lies (along at i) (along_holds at n i h)))

row_here : (r : Rect) (chan : ℕ) (old new : List ℕ) (at q : Point) (n : ℕ) (value : ℕ → ℕ) → Lies r at n → Copied (depth chan) (number_of r at) n value old new → holds (strip at n) q ≡ true → pixel_of r chan new q ≡ value (distance at.x q.x)
row_here r chan old new at q n value lies copied h =
    let place = strip_point at q n h in
    let i = distance at.x q.x in
    ap (pixel_of r chan new) (sym place.1)
    ∙ sym (row_read r chan new at n i lies place.0)
    ∙ copied.written i place.0

row_beside : (r : Rect) (chan : ℕ) (old new : List ℕ) (at q : Point) (n : ℕ) (value : ℕ → ℕ) → Lies r at n → Copied (depth chan) (number_of r at) n value old new → holds (strip at n) q ≡ false → holds r q ≡ true → pixel_of r chan new q ≡ pixel_of r chan old q
row_beside r chan old new at q n value lies copied h inside =
    pixel_inside r chan new q inside
    ∙ copied.others (number_of r q)
    (λ i below same.
    let some : 0 < n = omega arith in
    let number = number_along r at i (start_in r at n some lies) in
    let here = along_holds at n i below in
    let point = number_tells r q (along at i) inside (lies (along at i) here) (same ∙ sym number) in
    both_ways _ h (ap (holds (strip at n)) point ∙ here))
    ∙ sym (pixel_inside r chan old q inside)

pub row_written : (r : Rect) (chan : ℕ) (old new : List ℕ) (at : Point) (n : ℕ) (value : ℕ → ℕ) → Lies r at n → Copied (depth chan) (number_of r at) n value old new → (q : Point) → pixel_of r chan new q ≡ (if holds (strip at n) q then value (distance at.x q.x) else pixel_of r chan old q)
row_written r chan old new at n value lies copied q =
    ⊎_elim
    (λ (h : holds (strip at n) q ≡ true). row_here r chan old new at q n value lies copied h ∙ sym (cond-true _ _ _ h))
    (λ (h : holds (strip at n) q ≡ false).
    ⊎_elim
    (λ (e : holds r q ≡ true). row_beside r chan old new at q n value lies copied h e)
    (λ (e : holds r q ≡ false). pixel_outside r chan new q e ∙ sym (pixel_outside r chan old q e))
    (cases_Bool (holds r q))
    ∙ sym (cond-false _ _ _ h))
    (cases_Bool (holds (strip at n) q))

-- a point of a strip, carried along with it
pub carried_along : (at q start from : Point) (n : ℕ) → holds (strip at n) q ≡ true → along (carried at start from) (distance at.x q.x) ≡ carried q start from
carried_along at q start from n h =
    let b = bounds_of (strip at n) q h in
    let d = distance_is at.x q.x b.left in
    same_point (along (carried at start from) (distance at.x q.x)) (carried q start from) (omega (arith, ints, d)) (omega (arith, ints, b.top, b.bottom))

-- and back
pub carried_strip : (at p start from : Point) (n : ℕ) → holds (strip (carried at start from) n) p ≡ true → holds (strip at n) (carried p from start) ≡ true
carried_strip at p start from n h =
    let b = bounds_of (strip (carried at start from) n) p h in
    holds_from (strip at n) (carried p from start)
    (record { left = omega (arith, ints, b.left); right = omega (arith, ints, b.right); top = omega (arith, ints, b.top); bottom = omega (arith, ints, b.bottom) })

pub carried_twice : (p from to : Point) → carried (carried p from to) to from ≡ p
carried_twice p from to = same_point (carried (carried p from to) to from) p (omega (arith, ints)) (omega (arith, ints))

-- ---- a row as a line of bytes

record Place (r : Rect) (bits : ℕ) (pixel : Point → ℕ) (row n : ℕ) : Type 0 where
  pub within : skip r bits ≤ n → n < skip r bits + width r → row_place r bits pixel row n ≡ pixel (along (point_at r 0 row) (n - skip r bits))
  pub before : n < skip r bits → row_place r bits pixel row n ≡ 0
  pub behind : skip r bits + width r ≤ n → row_place r bits pixel row n ≡ 0

place_of : (r : Rect) (bits : ℕ) (pixel : Point → ℕ) (row n : ℕ) → Place r bits pixel row n
place_of r bits pixel row n = record {
  within = λ low high.
      cond-true _ _ 0 (and_from _ _ (le-leb _ _ low) (lt-ltb _ _ high))
      ∙ ap pixel (same_point (point_at r (n - skip r bits) row) (along (point_at r 0 row) (n - skip r bits)) (omega (arith, ints)) refl);
  before = λ h. cond-false _ _ 0 (ap (λ v. v && nat_lt n (skip r bits + width r)) (lt-leb _ _ h));
  behind = λ h. cond-false _ _ 0 (ap (λ v. nat_le (skip r bits) n && v) (le-ltb _ _ h) ∙ and-false _);
}

-- a line that was 0 and then got the pixels of a row
pub line_places : (r : Rect) (bits : ℕ) (pixel : Point → ℕ) (row : ℕ) (value : ℕ → ℕ) (zeros line : List ℕ) → is_depth bits ≡ true → ((j : ℕ) → get_or zeros j 0 ≡ 0) → Copied bits (skip r bits) (width r) value zeros line → ((i : ℕ) → i < width r → value i ≡ pixel (along (point_at r 0 row) i)) → (n : ℕ) → raw_at bits line n ≡ row_place r bits pixel row n
line_places r bits pixel row value zeros line is none copied shown n =
    let place = place_of r bits pixel row n in
    let before = skip r bits in
    let empty = raw_zero bits zeros n is none in
    ⊎_elim
    (λ (h : n < before). copied.others n (λ i l. omega arith) ∙ empty ∙ sym (place.before h))
    (λ (h : before ≤ n).
    ⊎_elim
    (λ (e : n < before + width r).
    let i = n - before in
    let number : n ≡ before + i = omega arith in
    let below : i < width r = omega arith in
    ap (raw_at bits line) number ∙ copied.written i below ∙ shown i below ∙ sym (place.within h e))
    (λ (e : before + width r ≤ n). copied.others n (λ i l. omega arith) ∙ empty ∙ sym (place.behind e))
    (cases_lt n (before + width r)))
    (cases_lt n before)

pub line_bytes : (r : Rect) (bits : ℕ) (pixel : Point → ℕ) (row : ℕ) (value : ℕ → ℕ) (zeros line : List ℕ) → is_depth bits ≡ true → ((j : ℕ) → get_or zeros j 0 ≡ 0) → ((j : ℕ) → get_or line j 0 < 256) → Copied bits (skip r bits) (width r) value zeros line → ((i : ℕ) → i < width r → value i ≡ pixel (along (point_at r 0 row) i)) → (k : ℕ) → get_or line k 0 ≡ byte_at bits (row_place r bits pixel row) k
line_bytes r bits pixel row value zeros line is none fits copied shown k =
    sym (byte_back bits line k is fits)
    ∙ (λ i. byte_at bits (λ n. line_places r bits pixel row value zeros line is none copied shown n i) k)

-- a row of a rectangle lies within what has its points
pub row_lies : (r whole : Rect) (row : ℕ) → IsOrdered r → row < height r → ((p : Point) → holds r p ≡ true → holds whole p ≡ true) → Lies whole (point_at r 0 row) (width r)
row_lies r whole row ordered below inside p h =
    inside p (row_inside r (record { x = r.min.x; y = r.min.y +ℤ pos row }) p row ordered refl refl below (ap (λ v. holds (strip v (width r)) p) (same_point (record { x = r.min.x; y = r.min.y +ℤ pos row }) (point_at r 0 row) (omega (arith, ints)) refl) ∙ h))

-- a byte of a line of whole pixels
pub whole_line : (r : Rect) (bits : ℕ) (pixel : Point → ℕ) (row k : ℕ) (line : List ℕ) → is_depth bits ≡ true → 8 ≤ bits → k / (bits / 8) < width r → ((j : ℕ) → get_or line j 0 < 256) → ((i : ℕ) → i < width r → raw_at bits line i ≡ pixel (along (point_at r 0 row) i)) → get_or line k 0 ≡ byte_at bits (row_place r bits pixel row) k
whole_line r bits pixel row k line is whole within fits shown =
    let i = k / (bits / 8) in
    let none = skip_whole r bits is whole in
    let place = place_of r bits pixel row i in
    let low : skip r bits ≤ i = omega (arith, none) in
    let high : i < skip r bits + width r = omega (arith, none, within) in
    let same : i - skip r bits ≡ i = omega (arith, none) in
    sym (byte_back bits line k is fits)
    ∙ byte_whole bits (raw_at bits line) k whole
    ∙ ap (λ v. v / 2 ^ (8 * (k % (bits / 8))) % 256) (shown i within ∙ ap (λ n. pixel (along (point_at r 0 row) n)) (sym same) ∙ sym (place.within low high))
    ∙ sym (byte_whole bits (row_place r bits pixel row) k whole)
