-- Pixels of a rectangle among rows of others, read or written row by row.
use Rattle.std.proofs.Common.{◌≡◌, ◌≢◌, ◌∙◌, ℕ, ◌+◌, ◌-◌, ◌*◌, ◌<◌, ◌≤◌, Bool, true, false, List, length, length-drop, take, drop, get_or, refl, sym, subst, ap, arith, ⊎_elim}
use Rattle.std.specs.Prelude.{pos, ◌+ℤ◌, ◌||◌}
use Rattle.std.proofs.lemmas.Bool.{cases_lt}
use Rattle.std.proofs.lemmas.Int.{ints}
use Rattle.std.proofs.lemmas.List.{get_or-drop, get_or-take, length-take-le}
use Rattle.std.proofs.lemmas.Nat.{mul-add-lt}
use Rattle.r9_geom.specs.declared.Point.{Point}
use Rattle.r9_geom.specs.declared.Rect.{Rect}
use Rattle.r9_geom.specs.Geometry.{distance, holds, point_at, strip, width, IsOrdered}
use Rattle.r9_geom.proofs.GeometryLemmas.{band, band_more, bounds_of, cell_of, distance_is, holds_from, row_distance, same_point, strip_distance, strip_here}
use Rattle.r9_plane.specs.Blocks.{number_in}
use Rattle.r9_plane.specs.Pixels.{along}
use Rattle.model_pixel.specs.Rows.{raw_at}
use Rattle.r9_plane.proofs.RunLemmas.{Copied, Stretch}

-- the first point of a row
record Begins (r : Rect) (at : Point) (row : ℕ) : Type 0 where
  left : at.x ≡ r.min.x
  top : at.y ≡ r.min.y +ℤ pos row

begins : (r : Rect) (at : Point) (row : ℕ) → at ≡ point_at r 0 row → Begins r at row
begins r at row is =
    let x = ap (λ (q : Point). q.x) is in
    record {
      left = omega (arith, ints, x);
      top = ap (λ (q : Point). q.y) is;
    }

-- a point of a row has the number of its column, from the row's first one on
row_number : (r : Rect) (at p : Point) (row first across w : ℕ) → Begins r at row → w ≡ width r → holds (strip at w) p ≡ true → number_in r first across p ≡ first + row * across + distance at.x p.x
row_number r at p row first across w b wide h =
    let line : distance r.min.y p.y ≡ row = row_distance r at p row b.top (ap (λ m. holds (strip at m) p) (sym wide) ∙ h) in
    ap (λ n. first + n * across + distance r.min.x p.x) line ∙ ap (λ x. first + row * across + distance x p.x) (sym b.left)

-- its column is one of the row
pub row_column : (at p : Point) (w : ℕ) → holds (strip at w) p ≡ true → distance at.x p.x < w
row_column at p w h =
    let b = bounds_of (strip at w) p h in
    let column = distance_is at.x p.x b.left in
    omega (arith, ints, column, b.right)

pub row_number_at : (r : Rect) (at p : Point) (row first across : ℕ) → at ≡ point_at r 0 row → holds (strip at (width r)) p ≡ true → number_in r first across p ≡ first + row * across + distance at.x p.x
row_number_at r at p row first across is h = row_number r at p row first across (width r) (begins r at row is) refl h

pub along_in : (at : Point) (n i : ℕ) → i < n → holds (strip at n) (along at i) ≡ true
along_in at n i below = strip_here at (along at i) i n refl refl below

-- a part of a list
abbrev pub part : List ℕ → ℕ → ℕ → List ℕ
part xs a b = take (b - a) (drop a xs)

pub length-part : (xs : List ℕ) (a b k : ℕ) → b ≡ a + k → a + k ≤ length xs → length (take (b - a) (drop a xs)) ≡ k
length-part xs a b k is fits = length-take-le (b - a) (drop a xs) (omega (arith, is, length-drop a xs)) ∙ omega (arith, is)

pub get_or-part : (xs : List ℕ) (a b k i : ℕ) → b ≡ a + k → i < k → get_or (take (b - a) (drop a xs)) i 0 ≡ get_or xs (a + i) 0
get_or-part xs a b k i is below = get_or-take (b - a) (drop a xs) i 0 (omega (arith, is)) ∙ get_or-drop a xs i 0

-- the point so many columns along a row
pub row_along : (r : Rect) (row k first across w : ℕ) → w ≡ width r → k < w → number_in r first across (along (point_at r 0 row) k) ≡ first + row * across + k
row_along r row k first across w wide below =
    let at = point_at r 0 row in
    let p = along at k in
    row_number r at p row first across w (begins r at row refl) wide (strip_here at p k w refl refl below)
    ∙ ap (λ m. first + row * across + m) (strip_distance at p k refl)

-- a written first row has its pixel from the first number on
pub first_row : (r : Rect) (row k first across w bits raw : ℕ) (bytes : List ℕ) → IsOrdered r → 0 < row → w ≡ width r → k < w → ((p : Point) → holds (band r row) p ≡ true → raw_at bits bytes (number_in r first across p) ≡ raw) → raw_at bits bytes (first + k) ≡ raw
first_row r row k first across w bits raw bytes ordered some wide below written =
    let p = along (point_at r 0 0) k in
    let right = distance_is r.min.x r.max.x ordered.across in
    let number : number_in r first across p ≡ first + k = row_along r 0 k first across w wide below ∙ omega arith in
    ap (raw_at bits bytes) (sym number)
    ∙ written p (holds_from (band r row) p (record { left = omega (arith, ints); right = omega (arith, ints, right, wide, below); top = omega (arith, ints); bottom = omega (arith, ints, some) }))

-- a point of an earlier row has a lower one
early_number : (r : Rect) (p : Point) (row first across : ℕ) → width r ≤ across → holds (band r row) p ≡ true → number_in r first across p < first + row * across
early_number r p row first across narrow h =
    let b = bounds_of (band r row) p h in
    let cell = cell_of (band r row) p h in
    let line = distance_is r.min.y p.y b.top in
    let early : distance r.min.y p.y < row = omega (arith, ints, line, b.bottom) in
    let column : distance r.min.x p.x < across = omega (arith, cell.column, narrow) in
    let below = mul-add-lt (distance r.min.y p.y) across (distance r.min.x p.x) row early column in
    omega (arith, below)

-- what holds at the points of a row, and of the earlier ones, holds at those of one row more
pub row_all : (P : Point → Type 0) (r : Rect) (at p : Point) (row w : ℕ) → IsOrdered r → at ≡ point_at r 0 row → w ≡ width r → ((k : ℕ) → k < w → P (along at k)) → (holds (band r row) p ≡ true → P p) → holds (band r (row + 1)) p ≡ true → P p
row_all P r at p row w ordered is wide now earlier inside =
    let b = begins r at row is in
    let more = ap (λ m. holds (strip at m) p || holds (band r row) p) wide ∙ sym (band_more r at p row ordered b.left b.top) ∙ inside in
    by_cases (holds (strip at w) p) refl more
  where
    by_cases : (c : Bool) → holds (strip at w) p ≡ c → (c || holds (band r row) p) ≡ true → P p
    by_cases true e some =
        let s = bounds_of (strip at w) p e in
        let column = distance_is at.x p.x s.left in
        let k = distance at.x p.x in
        let below : k < w = omega (arith, ints, column, s.right) in
        subst P (same_point (along at k) p column (omega (arith, ints, s.top, s.bottom))) (now k below)
    by_cases false e some = earlier some

-- one more row was read: its pixels stand from `start` on
pub row_put : (r : Rect) (at p : Point) (row w first across start : ℕ) (old new line : List ℕ) (value : Point → ℕ) → IsOrdered r → at ≡ point_at r 0 row → w ≡ width r → width r ≤ across → start ≡ first + row * across → Stretch old new line start w 0 → ((k : ℕ) → k < w → get_or line k 0 ≡ value (along at k)) → (holds (band r row) p ≡ true → get_or old (number_in r first across p) 0 ≡ value p) → holds (band r (row + 1)) p ≡ true → get_or new (number_in r first across p) 0 ≡ value p
row_put r at p row w first across start old new line value ordered is wide narrow here put now earlier inside =
    let more = ap (λ m. holds (strip at m) p || holds (band r row) p) wide ∙ sym (band_more r at p row ordered b.left b.top) ∙ inside in
    by_cases (holds (strip at w) p) refl more
  where
    b : Begins r at row
    b = begins r at row is

    by_cases : (c : Bool) → holds (strip at w) p ≡ c → (c || holds (band r row) p) ≡ true → get_or new (number_in r first across p) 0 ≡ value p
    by_cases true e some =
        let s = bounds_of (strip at w) p e in
        let column = distance_is at.x p.x s.left in
        let k = distance at.x p.x in
        let below : k < w = omega (arith, ints, column, s.right) in
        ap (λ n. get_or new n 0) (row_number r at p row first across w b wide e ∙ ap (λ n. n + k) (sym here))
        ∙ put.written k below
        ∙ ap (λ n. get_or line n 0) (omega arith)
        ∙ now k below
        ∙ ap value (same_point (along at k) p column (omega (arith, ints, s.top, s.bottom)))
    by_cases false e some =
        put.before (number_in r first across p) (omega (arith, here, early_number r p row first across narrow some)) ∙ earlier some

-- and nothing else
pub row_put_others : (r : Rect) (at : Point) (row w first across start n : ℕ) (base old new line : List ℕ) → IsOrdered r → at ≡ point_at r 0 row → w ≡ width r → start ≡ first + row * across → Stretch old new line start w 0 → (((p : Point) → holds (band r row) p ≡ true → n ≢ number_in r first across p) → get_or old n 0 ≡ get_or base n 0) → ((p : Point) → holds (band r (row + 1)) p ≡ true → n ≢ number_in r first across p) → get_or new n 0 ≡ get_or base n 0
row_put_others r at row w first across start n base old new line ordered is wide here put earlier apart =
    same ∙ earlier (λ p h. apart p (more p ∙ ap (λ c. holds (strip at (width r)) p || c) h ∙ or-true (holds (strip at (width r)) p)))
  where
    b : Begins r at row
    b = begins r at row is

    more : (p : Point) → holds (band r (row + 1)) p ≡ (holds (strip at (width r)) p || holds (band r row) p)
    more p = band_more r at p row ordered b.left b.top

    or-true : (c : Bool) → (c || true) ≡ true
    or-true true = refl
    or-true false = refl

    in_row : (k : ℕ) → k < w → n ≢ start + k
    in_row k below e =
        let p = along at k in
        let h : holds (strip at w) p ≡ true = strip_here at p k w refl refl below in
        let wide_h : holds (strip at (width r)) p ≡ true = ap (λ m. holds (strip at m) p) (sym wide) ∙ h in
        let column : distance at.x p.x ≡ k = strip_distance at p k refl in
        apart p (more p ∙ ap (λ c. c || holds (band r row) p) wide_h)
        (e ∙ ap (λ m. m + k) here ∙ ap (λ m. first + row * across + m) (sym column) ∙ sym (row_number r at p row first across w b wide h))

    same : get_or new n 0 ≡ get_or old n 0
    same =
        ⊎_elim
        (λ (h : n < start). put.before n h)
        (λ (h : start ≤ n).
        ⊎_elim
        (λ (l : n < start + w). absurd (in_row (n - start) (omega arith) (omega arith)))
        (λ (l : start + w ≤ n). put.after n l)
        (cases_lt n (start + w)))
        (cases_lt n start)

-- one more row of packed pixels was written from `start` on
pub row_packed : (r : Rect) (at p : Point) (row w first across start bits : ℕ) (old new : List ℕ) (value : ℕ → ℕ) (all : Point → ℕ) → IsOrdered r → at ≡ point_at r 0 row → w ≡ width r → width r ≤ across → start ≡ first + row * across → Copied bits start w value old new → ((k : ℕ) → k < w → value k ≡ all (along at k)) → (holds (band r row) p ≡ true → raw_at bits old (number_in r first across p) ≡ all p) → holds (band r (row + 1)) p ≡ true → raw_at bits new (number_in r first across p) ≡ all p
row_packed r at p row w first across start bits old new value all ordered is wide narrow here put now earlier inside =
    let more = ap (λ m. holds (strip at m) p || holds (band r row) p) wide ∙ sym (band_more r at p row ordered b.left b.top) ∙ inside in
    by_cases (holds (strip at w) p) refl more
  where
    b : Begins r at row
    b = begins r at row is

    by_cases : (c : Bool) → holds (strip at w) p ≡ c → (c || holds (band r row) p) ≡ true → raw_at bits new (number_in r first across p) ≡ all p
    by_cases true e some =
        let s = bounds_of (strip at w) p e in
        let column = distance_is at.x p.x s.left in
        let k = distance at.x p.x in
        let below : k < w = omega (arith, ints, column, s.right) in
        ap (raw_at bits new) (row_number r at p row first across w b wide e ∙ ap (λ n. n + k) (sym here))
        ∙ put.written k below
        ∙ now k below
        ∙ ap all (same_point (along at k) p column (omega (arith, ints, s.top, s.bottom)))
    by_cases false e some =
        let before = early_number r p row first across narrow some in
        put.others (number_in r first across p) (λ k below. omega (arith, here, before)) ∙ earlier some

-- and nothing else
pub row_packed_others : (r : Rect) (at : Point) (row w first across start bits n : ℕ) (base old new : List ℕ) (value : ℕ → ℕ) → IsOrdered r → at ≡ point_at r 0 row → w ≡ width r → start ≡ first + row * across → Copied bits start w value old new → (((p : Point) → holds (band r row) p ≡ true → n ≢ number_in r first across p) → raw_at bits old n ≡ raw_at bits base n) → ((p : Point) → holds (band r (row + 1)) p ≡ true → n ≢ number_in r first across p) → raw_at bits new n ≡ raw_at bits base n
row_packed_others r at row w first across start bits n base old new value ordered is wide here put earlier apart =
    put.others n in_row ∙ earlier (λ p h. apart p (more p ∙ ap (λ c. holds (strip at (width r)) p || c) h ∙ or-true (holds (strip at (width r)) p)))
  where
    b : Begins r at row
    b = begins r at row is

    more : (p : Point) → holds (band r (row + 1)) p ≡ (holds (strip at (width r)) p || holds (band r row) p)
    more p = band_more r at p row ordered b.left b.top

    or-true : (c : Bool) → (c || true) ≡ true
    or-true true = refl
    or-true false = refl

    in_row : (k : ℕ) → k < w → n ≢ start + k
    in_row k below e =
        let p = along at k in
        let h : holds (strip at w) p ≡ true = strip_here at p k w refl refl below in
        let wide_h : holds (strip at (width r)) p ≡ true = ap (λ m. holds (strip at m) p) (sym wide) ∙ h in
        let column : distance at.x p.x ≡ k = strip_distance at p k refl in
        apart p (more p ∙ ap (λ c. c || holds (band r row) p) wide_h)
        (e ∙ ap (λ m. m + k) here ∙ ap (λ m. first + row * across + m) (sym column) ∙ sym (row_number r at p row first across w b wide h))
