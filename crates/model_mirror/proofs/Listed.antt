-- The cells of a picture stand in order, and each of its points lies in one.
use Rattle.std.proofs.Common.{◌≡◌, ◌∙◌, ℕ, zero, suc, pos, ◌+◌, ◌*◌, ◌/◌, ◌<◌, ◌≤◌, Bool, true, false, ◌&&◌, ◌||◌, List, [], ◌∷◌, ◌++◌, ⊎_elim, cond, subst, arith}
use Rattle.std.specs.Prelude.{filter, map}
use Rattle.std.specs.List.{flat_map, list_any, range_with_len}
use Rattle.std.proofs.lemmas.Bool.{cases_eq, or_cases, or_left, or_right}
use Rattle.std.proofs.lemmas.Int.{ints}
use Rattle.std.proofs.lemmas.List.Folds.{list_any-append}
use Rattle.r9_geom.specs.declared.Point.{Point}
use Rattle.r9_geom.specs.Geometry.{holds}
use Rattle.r9_geom.proofs.GeometryLemmas.{holds_from}
use Rattle.r9_marks.specs.marks.Cells.{cells_in, cells_over}
use Rattle.model_client.specs.mirror.Picture.{Picture}
use Rattle.model_mirror.specs.Frame.{place_of, rect_of}

-- where a cell stands in the order of cells
abbrev pub order_of : ℕ × ℕ → ℕ
order_of cell = 2048 * (32 * cell.1) + 32 * cell.0

-- cells of so many pixels across and down, in ascending order from one on
abbrev pub AreListed : (width height first : ℕ) → List (ℕ × ℕ) → Type 0
AreListed width height first [] = Unit {0}
AreListed width height first (cell ∷ cells) =
    (32 * cell.0 < width) × (32 * cell.1 < height) × (first ≤ order_of cell) × AreListed width height (order_of cell + 1) cells

later : (width height first least : ℕ) (cells : List (ℕ × ℕ)) → least ≤ first → AreListed width height first cells → AreListed width height least cells
later width height first least [] low h = tt
later width height first least (cell ∷ cells) low h = (h.0, h.1, omega (arith, h.2, low), h.3)

pub filtered : (width height first : ℕ) (p : ℕ × ℕ → Bool) (cells : List (ℕ × ℕ)) → AreListed width height first cells → AreListed width height first (filter p cells)
filtered width height first p [] h = tt
filtered width height first p (cell ∷ cells) h =
    let rest = filtered width height (order_of cell + 1) p cells h.3 in
    (elim (p cell) as (λ b. AreListed width height first (cond b (cell ∷ filter p cells) (filter p cells))) [
      | true ↦ (h.0, h.1, h.2, rest)
      | false ↦ later width height (order_of cell + 1) first (filter p cells) (omega (arith, h.2)) rest
    ])

-- the cells of a row
abbrev pub row_of : (row : ℕ) → List ℕ → List (ℕ × ℕ)
row_of row columns = map (λ column. (column, row)) columns

row_listed : (width height row from n : ℕ) (rest : List (ℕ × ℕ)) → from + n ≤ cells_over width → width ≤ 2048 → 32 * row < height
    → AreListed width height (65536 * row + 65536) rest → AreListed width height (65536 * row + 32 * from) (row_of row (range_with_len from n) ++ rest)
row_listed width height row from zero rest few wide low h = later width height (65536 * row + 65536) (65536 * row + 32 * from) rest (omega (arith, few, wide)) h
row_listed width height row from (suc n) rest few wide low h = (
  omega (arith, few),
  low,
  omega arith,
  later width height (65536 * row + 32 * (from + 1)) (2048 * (32 * row) + 32 * from + 1) (row_of row (range_with_len (from + 1) n) ++ rest) (omega arith) (row_listed width height row (from + 1) n rest (omega (arith, few)) wide low h),
)

rows_listed : (width height from n : ℕ) → width ≤ 2048 → from + n ≤ cells_over height → AreListed width height (65536 * from) (flat_map (λ row. row_of row (range_with_len 0 (cells_over width))) (range_with_len from n))
rows_listed width height from zero wide few = tt
rows_listed width height from (suc n) wide few =
    let columns = range_with_len 0 (cells_over width) in
    let rest = flat_map (λ row. row_of row columns) (range_with_len (from + 1) n) in
    let others = rows_listed width height (from + 1) n wide (omega (arith, few)) in
    later width height (65536 * from + 32 * 0) (65536 * from) (row_of from columns ++ rest) (omega arith)
    (row_listed width height from 0 (cells_over width) rest (omega arith) wide (omega (arith, few)) (later width height (65536 * (from + 1)) (65536 * from + 65536) rest (omega arith) others))

-- the cells of a picture
pub all_listed : (width height : ℕ) → width ≤ 2048 → AreListed width height 0 (cells_in (cells_over width) (cells_over height))
all_listed width height wide = rows_listed width height 0 (cells_over height) wide (omega arith)

-- ---- a cell that is among them

found_filtered : (test p : ℕ × ℕ → Bool) (cells : List (ℕ × ℕ)) → list_any (λ cell. p cell && test cell) cells ≡ true → list_any test (filter p cells) ≡ true
found_filtered test p [] h = h
found_filtered test p (cell ∷ cells) h =
    (elim (p cell) as (λ b. ((b && test cell) || list_any (λ cell. p cell && test cell) cells) ≡ true → list_any test (cond b (cell ∷ filter p cells) (filter p cells)) ≡ true) [
      | true ↦ λ e.
          ⊎_elim
          (λ (here : test cell ≡ true). or_left (test cell) (list_any test (filter p cells)) here)
          (λ (rest : list_any (λ cell. p cell && test cell) cells ≡ true). or_right (test cell) (list_any test (filter p cells)) (found_filtered test p cells rest))
          (or_cases (test cell) (list_any (λ cell. p cell && test cell) cells) e)
      | false ↦ λ e. found_filtered test p cells e
    ]) h

found_column : (test : ℕ × ℕ → Bool) (row from n column : ℕ) → from ≤ column → column < from + n → test (column, row) ≡ true → list_any test (row_of row (range_with_len from n)) ≡ true
found_column test row from zero column low high h = absurd (omega (arith, low, high))
found_column test row from (suc n) column low high h =
    let rest = row_of row (range_with_len (from + 1) n) in
    ⊎_elim
    (λ (e : column ≡ from). or_left (test (from, row)) (list_any test rest) (subst (λ (c : ℕ). test (c, row) ≡ true) e h))
    (λ (other : column ≡ from → ⊥). or_right (test (from, row)) (list_any test rest) (found_column test row (from + 1) n column (omega (arith, low, other)) (omega (arith, high)) h))
    (cases_eq column from)

found_row : (test : ℕ × ℕ → Bool) (across from n column row : ℕ) → from ≤ row → row < from + n → column < across → test (column, row) ≡ true
    → list_any test (flat_map (λ row. row_of row (range_with_len 0 across)) (range_with_len from n)) ≡ true
found_row test across from zero column row low high narrow h = absurd (omega (arith, low, high))
found_row test across from (suc n) column row low high narrow h =
    let here = row_of from (range_with_len 0 across) in
    let rest = flat_map (λ row. row_of row (range_with_len 0 across)) (range_with_len (from + 1) n) in
    list_any-append test here rest
    ∙ ⊎_elim
    (λ (e : row ≡ from). or_left (list_any test here) (list_any test rest) (found_column test from 0 across column (omega arith) (omega (arith, narrow)) (subst (λ (r : ℕ). test (column, r) ≡ true) e h)))
    (λ (other : row ≡ from → ⊥). or_right (list_any test here) (list_any test rest) (found_row test across (from + 1) n column row (omega (arith, low, other)) (omega (arith, high)) narrow h))
    (cases_eq row from)

-- whether one of these cells of a picture has a point
abbrev pub covers : Picture → List (ℕ × ℕ) → Point → Bool
covers picture cells p = list_any (λ cell. holds (rect_of (place_of picture cell)) p) cells

-- the cell of a point of a picture has it
pub covered : (picture : Picture) (sent : (column row : ℕ) → Bool) (x y : ℕ) → x < picture.width → y < picture.height → sent (x / 32) (y / 32) ≡ true
    → covers picture (filter (λ cell. sent cell.0 cell.1) (cells_in (cells_over picture.width) (cells_over picture.height))) (record { x = pos x; y = pos y }) ≡ true
covered picture sent x y across down is =
    let p : Point = record { x = pos x; y = pos y } in
    let test : ℕ × ℕ → Bool = λ cell. holds (rect_of (place_of picture cell)) p in
    let here : holds (rect_of (place_of picture (x / 32, y / 32))) p ≡ true =
    holds_from (rect_of (place_of picture (x / 32, y / 32))) p
    (record {
      left = omega (arith, ints);
      right = omega (arith, ints, across);
      top = omega (arith, ints);
      bottom = omega (arith, ints, down);
    }) in
    found_filtered test (λ cell. sent cell.0 cell.1) (cells_in (cells_over picture.width) (cells_over picture.height))
    (found_row (λ cell. sent cell.0 cell.1 && test cell) (cells_over picture.width) 0 (cells_over picture.height) (x / 32) (y / 32) (omega arith) (omega (arith, down)) (omega (arith, across)) (both (sent (x / 32) (y / 32)) (test (x / 32, y / 32)) is here))
  where
    both : (a b : Bool) → a ≡ true → b ≡ true → (a && b) ≡ true
    both true b e h = h
    both false b e h = e
