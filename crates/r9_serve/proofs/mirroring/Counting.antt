-- All cells of a table, counted.
use Rattle.std.proofs.Common.{◌≡◌, ℕ, zero, suc, ◌+◌, ◌*◌, ◌≤◌, Bool, true, List, refl, arith, nat_lt, lt-ltb}
use Rattle.std.specs.Prelude.{map}
use Rattle.std.specs.List.{count_by, flat_map, range_with_len}
use Rattle.std.proofs.lemmas.Nat.{mul-le}
use Rattle.std.proofs.lemmas.List.Sums.{sum_by-append, sum_by-cons}
use Rattle.r9_marks.specs.marks.Cells.{cells_over, count_cells}

abbrev any : ℕ × ℕ → Bool
any cell = true

row_all : (row a n : ℕ) → count_by any (map (λ column. (column, row)) (range_with_len a n)) ≡ n
row_all row a zero = refl
row_all row a (suc n) =
    let cells : List (ℕ × ℕ) = map (λ column. (column, row)) (range_with_len (a + 1) n) in
    omega (arith, sum_by-cons (λ (cell : ℕ × ℕ). 1) (a, row) cells, row_all row (a + 1) n)

rows_all : (across first down : ℕ) → count_by any (flat_map (λ row. map (λ column. (column, row)) (range_with_len 0 across)) (range_with_len first down)) ≡ down * across
rows_all across first zero = (let none : 0 ≡ 0 * across = omega arith in none)
rows_all across first (suc down) =
    let upper : List (ℕ × ℕ) = map (λ column. (column, first)) (range_with_len 0 across) in
    let lower : List (ℕ × ℕ) = flat_map (λ row. map (λ column. (column, row)) (range_with_len 0 across)) (range_with_len (first + 1) down) in
    omega (arith, sum_by-append (λ (cell : ℕ × ℕ). 1) upper lower, row_all first 0 across, rows_all across (first + 1) down)

pub all_cells : (across down : ℕ) → count_cells across down (λ column row. true) ≡ down * across
all_cells across down = rows_all across 0 down

over_few : (n : ℕ) → cells_over n ≤ n
over_few n = omega arith

over_some : (n : ℕ) → 1 ≤ n → 1 ≤ cells_over n
over_some n some = omega (arith, some)

-- there are no more cells than pixels
pub cells_few : (width height : ℕ) → count_cells (cells_over width) (cells_over height) (λ column row. true) ≤ width * height
cells_few width height =
    omega (arith, all_cells (cells_over width) (cells_over height), mul-le (cells_over width) (cells_over height) width height (over_few width) (over_few height))

-- and there is one
pub cells_some : (width height : ℕ) → 1 ≤ width → 1 ≤ height → nat_lt 0 (count_cells (cells_over width) (cells_over height) (λ column row. true)) ≡ true
cells_some width height wide high =
    let some : 1 * 1 ≤ cells_over width * cells_over height = mul-le 1 1 (cells_over width) (cells_over height) (over_some width wide) (over_some height high) in
    lt-ltb 0 _ (omega (arith, some, all_cells (cells_over width) (cells_over height)))
