-- A square of 16 places a side meets at most four cells.
use Rattle.std.proofs.Common.{◌≡◌, ℕ, ℤ, pos, zero, suc, ◌+◌, ◌*◌, ◌≤◌, ◌+ℤ◌, ◌≤ℤ◌, ◌<ℤ◌, Bool, true, false, ◌&&◌, ◌||◌, List, [], ◌∷◌, ◌⊎◌, ⊎_elim, inl, inr, cond, refl, ap, arith, int_lt}
use Rattle.std.specs.Prelude.{map, Option, Some, None}
use Rattle.std.specs.List.{count_by, flat_map, range_with_len}
use Rattle.std.proofs.lemmas.Bool.{and_parts, and_right, cases_Bool, or_cases}
use Rattle.std.proofs.lemmas.Int.{ints}
use Rattle.std.proofs.lemmas.List.Sums.{sum_by-append, sum_by-cons}
use Rattle.r9_geom.specs.declared.Point.{Point}
use Rattle.r9_marks.specs.marks.Cells.{cells_in, count_cells}
use Rattle.model_mirror.specs.Sent.{has_moved, meets, sent_after, spans}

abbrev weight : Bool → ℕ
weight b = cond b 1 0

-- ---- counts of two tests

weigh : (r p q : Bool) → (r ≡ true → (p ≡ true) ⊎ (q ≡ true)) → weight r ≤ weight p + weight q
weigh false p q h = omega arith
weigh true p q h = elim (h refl) [
  | inl e ↦ omega (arith, ap weight e)
  | inr e ↦ omega (arith, ap weight e)
]

-- where each element that has the first has one of two others
either_few : {X : Type 0} (r p q : X → Bool) → ((x : X) → r x ≡ true → (p x ≡ true) ⊎ (q x ≡ true)) → (xs : List X) → count_by r xs ≤ count_by p xs + count_by q xs
either_few r p q h [] = omega arith
either_few r p q h (x ∷ xs) =
    let here = weigh (r x) (p x) (q x) (h x) in
    let rest = either_few r p q h xs in
    omega (arith, here, rest, sum_by-cons (λ x. weight (r x)) x xs, sum_by-cons (λ x. weight (p x)) x xs, sum_by-cons (λ x. weight (q x)) x xs)

-- ---- cells of which the column has one thing and the row another

abbrev both : (f g : ℕ → Bool) → ℕ × ℕ → Bool
both f g cell = f cell.0 && g cell.1

abbrev row_of : (row : ℕ) → List ℕ → List (ℕ × ℕ)
row_of row columns = map (λ column. (column, row)) columns

row_none : (f g : ℕ → Bool) (row : ℕ) (columns : List ℕ) → g row ≡ false → count_by (both f g) (row_of row columns) ≡ 0
row_none f g row [] h = refl
row_none f g row (column ∷ columns) h =
    omega (arith, sum_by-cons (λ (cell : ℕ × ℕ). weight (both f g cell)) (column, row) (row_of row columns), ap weight (and_right (f column) (g row) h), row_none f g row columns h)

weigh_both : (p q : Bool) → weight (p && q) ≤ weight p
weigh_both false q = omega arith
weigh_both true false = omega arith
weigh_both true true = omega arith

row_few : (f g : ℕ → Bool) (row : ℕ) (columns : List ℕ) → count_by (both f g) (row_of row columns) ≤ count_by f columns
row_few f g row [] = omega arith
row_few f g row (column ∷ columns) =
    omega
    (arith, sum_by-cons (λ (cell : ℕ × ℕ). weight (both f g cell)) (column, row) (row_of row columns), sum_by-cons (λ (c : ℕ). weight (f c)) column columns, weigh_both (f column) (g row), row_few f g row columns)

rows_few : (f g : ℕ → Bool) (columns rows : List ℕ) → count_by f columns ≤ 2 → count_by (both f g) (flat_map (λ row. row_of row columns) rows) ≤ 2 * count_by g rows
rows_few f g columns [] h = omega arith
rows_few f g columns (row ∷ rows) h =
    let rest = rows_few f g columns rows h in
    let split = sum_by-append (λ (cell : ℕ × ℕ). weight (both f g cell)) (row_of row columns) (flat_map (λ row. row_of row columns) rows) in
    let count = sum_by-cons (λ (r : ℕ). weight (g r)) row rows in
    ⊎_elim
    (λ (e : g row ≡ true). omega (arith, rest, split, count, ap weight e, row_few f g row columns, h))
    (λ (e : g row ≡ false). omega (arith, rest, split, count, ap weight e, row_none f g row columns e))
    (cases_Bool (g row))

-- ---- the cells of 16 places

lt_true : (a b : ℤ) → int_lt a b ≡ true → a <ℤ b
lt_true a b h = grind (arith, ints)

lt_false : (a b : ℤ) → b ≤ℤ a → int_lt a b ≡ false
lt_false a b h = grind (arith, ints)

beyond : (first : ℤ) (from n : ℕ) → (first +ℤ pos 16) ≤ℤ pos (32 * from) → count_by (spans first) (range_with_len from n) ≡ 0
beyond first from zero h = refl
beyond first from (suc n) h =
    let here : spans first from ≡ false = and_right (int_lt first (pos (32 * from + 32))) _ (lt_false (pos (32 * from)) (first +ℤ pos 16) h) in
    omega (arith, sum_by-cons (λ (cell : ℕ). weight (spans first cell)) from (range_with_len (from + 1) n), ap weight here, beyond first (from + 1) n (omega (arith, ints, h)))

light : (b : Bool) → weight b ≤ 1
light true = omega arith
light false = omega arith

last : (first : ℤ) (from n : ℕ) → (first +ℤ pos 16) ≤ℤ pos (32 * from + 32) → count_by (spans first) (range_with_len from n) ≤ 1
last first from zero h = omega arith
last first from (suc n) h =
    omega (arith, sum_by-cons (λ (cell : ℕ). weight (spans first cell)) from (range_with_len (from + 1) n), light (spans first from), beyond first (from + 1) n (omega (arith, ints, h)))

stretch_few : (first : ℤ) (from n : ℕ) → count_by (spans first) (range_with_len from n) ≤ 2
stretch_few first from zero = omega arith
stretch_few first from (suc n) =
    let count = sum_by-cons (λ (cell : ℕ). weight (spans first cell)) from (range_with_len (from + 1) n) in
    ⊎_elim
    (λ (e : spans first from ≡ true).
    let near = lt_true first (pos (32 * from + 32)) (and_parts _ _ e).0 in
    omega (arith, count, light (spans first from), last first (from + 1) n (omega (arith, ints, near))))
    (λ (e : spans first from ≡ false). omega (arith, count, ap weight e, stretch_few first (from + 1) n))
    (cases_Bool (spans first from))

-- ---- the cursor's square

nothing : {X : Type 0} (xs : List X) → count_by (λ x. false) xs ≡ 0
nothing [] = refl
nothing {X} (x ∷ xs) = omega (arith, sum_by-cons (λ (x : X). 0) x xs, nothing xs)

square_few : (across down : ℕ) (at : Option Point) → count_cells across down (meets at) ≤ 4
square_few across down None = omega (arith, nothing (cells_in across down))
square_few across down (Some at) =
    omega
    (arith, rows_few (spans at.x) (spans at.y) (range_with_len 0 across) (range_with_len 0 down) (stretch_few at.x 0 across), stretch_few at.y 0 down)

pub few : (across down : ℕ) (old new : Option Point) (marked : (column row : ℕ) → Bool) → count_cells across down (sent_after false old new marked) ≤ count_cells across down marked + 8
few across down old new marked =
    let in_squares : (column row : ℕ) → Bool = λ column row. has_moved old new && (meets old column row || meets new column row) in
    let sent = either_few (λ (cell : ℕ × ℕ). sent_after false old new marked cell.0 cell.1) (λ (cell : ℕ × ℕ). marked cell.0 cell.1) (λ (cell : ℕ × ℕ). in_squares cell.0 cell.1) (λ cell h. or_cases (marked cell.0 cell.1) (in_squares cell.0 cell.1) h) (cells_in across down) in
    let squares = either_few (λ (cell : ℕ × ℕ). in_squares cell.0 cell.1) (λ (cell : ℕ × ℕ). meets old cell.0 cell.1) (λ (cell : ℕ × ℕ). meets new cell.0 cell.1) (λ cell h. or_cases (meets old cell.0 cell.1) (meets new cell.0 cell.1) (and_parts (has_moved old new) _ h).1) (cells_in across down) in
    omega (arith, sent, squares, square_few across down old, square_few across down new)
