-- Tables of cells after one cell has changed.
use Rattle.std.proofs.Common.{◌≡◌, ◌≢◌, ◌∙◌, ℕ, ◌+◌, ◌<◌, Bool, true, false, List, [], length, get_or, set, Option, Some, None, refl, sym, ap, subst, eq-eqb, arith, ⊎_elim}
use Rattle.std.specs.Prelude.{◌==◌, ◌&&◌, ◌||◌, not, cond, is_some}
use Rattle.std.specs.List.{count_by}
use Rattle.std.proofs.lemmas.Bool.{cases_eq, cases_lt, and_parts, and_from, ne_eqb, true≢false, or_left, or_right}
use Rattle.std.proofs.lemmas.Bool.Decides.{Decides-eqb}
use Rattle.std.proofs.lemmas.List.{get_or-map, get_or-set_same, get_or-set_other, get_or_past, get_or_read, length-map, map-set}
use Rattle.std.proofs.Math.ListN.{length-set}
use Rattle.std.proofs.lemmas.List.Sums.{sum_by-set}
use Rattle.r9_store.specs.Tiles.{Tiles, held, is_held}
use Rattle.r9_cells.specs.declared.table.Row.{Row}
use Rattle.r9_cells.specs.Rows.{cell_at, row_at, rows_of, tiles_of, IsKept}

abbrev pub changed : List (List (Option ℕ)) → ℕ → ℕ → Option ℕ → List (List (Option ℕ))
changed rows i k x = set rows i (set (row_at rows i) k x)

abbrev weight : Option ℕ → ℕ
weight o = cond (is_some o) 1 0

-- a row is written anew
pub rows_changed : (rows : List Row) (i k : ℕ) (x : Option ℕ) (row new : Row) → i < length rows → row ≡ get_or rows i row → new.cells.items ≡ set row.cells.items k x → rows_of (set rows i new) ≡ changed (rows_of rows) i k x
rows_changed rows i k x row new below is now =
    let items : Row → List (Option ℕ) = λ r. r.cells.items in
    let there : row_at (rows_of rows) i ≡ row.cells.items = get_or-map items rows i row [] below ∙ ap items (sym is) in
    map-set items rows i new ∙ ap (set (rows_of rows) i) (now ∙ ap (λ r. set r k x) (sym there))

-- what is read of a row
pub row_is : (rows : List Row) (i : ℕ) (row : Row) → i < length rows → row ≡ get_or rows i row → row_at (rows_of rows) i ≡ row.cells.items
row_is rows i row below is =
    let items : Row → List (Option ℕ) = λ r. r.cells.items in
    get_or-map items rows i row [] below ∙ ap items (sym is)

pub row_long : (rows : List Row) (i : ℕ) (row : Row) → i < length (rows_of rows) → row ≡ get_or rows i row → length (row_at (rows_of rows) i) ≡ length row.cells.items
row_long rows i row below is =
    let long = length-map rows (λ (r : Row). r.cells.items) in
    ap length (row_is rows i row (omega (arith, below, long)) is)

pub cell_same : (rows : List (List (Option ℕ))) (i k : ℕ) (x : Option ℕ) → i < length rows → k < length (row_at rows i) → cell_at (changed rows i k x) i k ≡ x
cell_same rows i k x image cell =
    ap (λ row. get_or row k None) (get_or-set_same rows i (set (row_at rows i) k x) [] image) ∙ get_or-set_same (row_at rows i) k x None cell

pub cell_other : (rows : List (List (Option ℕ))) (i k : ℕ) (x : Option ℕ) (j l : ℕ) → i < length rows → ((j == i) && (l == k)) ≡ false → cell_at (changed rows i k x) j l ≡ cell_at rows j l
cell_other rows i k x j l image differ = by_row (j == i) refl differ
  where
    by_row : (b : Bool) → (j == i) ≡ b → (b && (l == k)) ≡ false → cell_at (changed rows i k x) j l ≡ cell_at rows j l
    by_row true e d =
        let same : j ≡ i = (Decides-eqb j i).0 e in
        ap (λ n. cell_at (changed rows i k x) n l) same
        ∙ ap (λ row. get_or row l None) (get_or-set_same rows i (set (row_at rows i) k x) [] image)
        ∙ get_or-set_other (row_at rows i) k l x None (λ is. true≢false (sym (eq-eqb l k is) ∙ d))
        ∙ ap (λ n. cell_at rows n l) (sym same)
    by_row false e d =
        ap (λ row. get_or row l None) (get_or-set_other rows i j (set (row_at rows i) k x) [] (λ is. true≢false (sym (eq-eqb j i is) ∙ e)))

pub tiles_changed : (rows : List (List (Option ℕ))) (i k : ℕ) (x : Option ℕ) → i < length rows → k < length (row_at rows i) → tiles_of (changed rows i k x) + weight (cell_at rows i k) ≡ tiles_of rows + weight x
tiles_changed rows i k x image cell =
    let outer = sum_by-set (λ (row : List (Option ℕ)). count_by is_some row) rows i (set (row_at rows i) k x) [] image in
    let inner = sum_by-set weight (row_at rows i) k x None cell in
    omega (arith, outer, inner)

-- the cell, or another
pub by_cell : {C : Type 0} (i k j l : ℕ) → ((j == i) && (l == k) ≡ true → j ≡ i → l ≡ k → C) → ((j == i) && (l == k) ≡ false → C) → C
by_cell {C} i k j l here there = by ((j == i) && (l == k)) refl
  where
    by : (b : Bool) → ((j == i) && (l == k)) ≡ b → C
    by true e = let parts = and_parts (j == i) (l == k) e in here e ((Decides-eqb j i).0 parts.0) ((Decides-eqb l k).0 parts.1)
    by false e = there e

some_is : (t u : ℕ) → Some t ≡ Some u → t ≡ u
some_is t u e = cc

-- a cell gets a tile
pub kept-take : (rows : List (List (Option ℕ))) (i k t : ℕ) (store new : Tiles) → i < length rows → k < length (row_at rows i) → cell_at rows i k ≡ None → is_held store t ≡ false → ((u : ℕ) → is_held new u ≡ ((u == t) || is_held store u)) → held new ≡ held store + 1 → IsKept rows store → IsKept (changed rows i k (Some t)) new
kept-take rows i k t store new image cell none free taken more is = record {
  all =
      let sum = tiles_changed rows i k (Some t) image cell in
      let was : weight (cell_at rows i k) ≡ 0 = ap weight none in
      omega (arith, sum, was, more, is.all);
  alive = λ j l u e.
      by_cell i k j l
      (λ b j_is l_is.
      let u_is : t ≡ u = some_is t u (sym (cell_same rows i k (Some t) image cell) ∙ ap (λ n. cell_at (changed rows i k (Some t)) n k) (sym j_is) ∙ ap (cell_at (changed rows i k (Some t)) j) (sym l_is) ∙ e) in
      taken u ∙ or_left (u == t) (is_held store u) (eq-eqb u t (sym u_is)))
      (λ b. taken u ∙ or_right (u == t) (is_held store u) (is.alive j l u (sym (cell_other rows i k (Some t) j l image b) ∙ e)));
  apart = λ j l m n u e f.
      by_cell i k j l
      (λ b j_is l_is.
      by_cell i k m n
      (λ c m_is n_is. and_from (m == j) (n == l) (eq-eqb m j (m_is ∙ sym j_is)) (eq-eqb n l (n_is ∙ sym l_is)))
      (λ c. absurd (not_free u (now j l u b j_is l_is e) m n (sym (cell_other rows i k (Some t) m n image c) ∙ f))))
      (λ b.
      by_cell i k m n
      (λ c m_is n_is. absurd (not_free u (now m n u c m_is n_is f) j l (sym (cell_other rows i k (Some t) j l image b) ∙ e)))
      (λ c. is.apart j l m n u (sym (cell_other rows i k (Some t) j l image b) ∙ e) (sym (cell_other rows i k (Some t) m n image c) ∙ f)));
}
  where
    now : (j l u : ℕ) → ((j == i) && (l == k)) ≡ true → j ≡ i → l ≡ k → cell_at (changed rows i k (Some t)) j l ≡ Some u → t ≡ u
    now j l u b j_is l_is e = some_is t u (sym (cell_same rows i k (Some t) image cell) ∙ ap (λ n. cell_at (changed rows i k (Some t)) n k) (sym j_is) ∙ ap (cell_at (changed rows i k (Some t)) j) (sym l_is) ∙ e)

    not_free : (u : ℕ) → t ≡ u → (j l : ℕ) → cell_at rows j l ≡ Some u → ⊥
    not_free u same j l e = true≢false (sym (is.alive j l u e) ∙ ap (is_held store) (sym same) ∙ free)

-- a cell loses its tile
pub kept-give : (rows : List (List (Option ℕ))) (i k t : ℕ) (store new : Tiles) → i < length rows → k < length (row_at rows i) → cell_at rows i k ≡ Some t → ((u : ℕ) → is_held new u ≡ (not (u == t) && is_held store u)) → held new + 1 ≡ held store → IsKept rows store → IsKept (changed rows i k None) new
kept-give rows i k t store new image cell some given fewer is = record {
  all =
      let sum = tiles_changed rows i k None image cell in
      let was : weight (cell_at rows i k) ≡ 1 = ap weight some in
      omega (arith, sum, was, fewer, is.all);
  alive = λ j l u e.
      by_cell i k j l
      (λ b j_is l_is. absurd (empty j l u j_is l_is e))
      (λ b.
      let old = sym (cell_other rows i k None j l image b) ∙ e in
      given u
      ∙ ap (λ c. not c && is_held store u) (ne_eqb u t (λ same. true≢false (sym (is.apart i k j l u (some ∙ ap (λ n. Some n) (sym same)) old) ∙ b)))
      ∙ is.alive j l u old);
  apart = λ j l m n u e f.
      by_cell i k j l
      (λ b j_is l_is. absurd (empty j l u j_is l_is e))
      (λ b.
      by_cell i k m n
      (λ c m_is n_is. absurd (empty m n u m_is n_is f))
      (λ c. is.apart j l m n u (sym (cell_other rows i k None j l image b) ∙ e) (sym (cell_other rows i k None m n image c) ∙ f)));
}
  where
    empty : (j l u : ℕ) → j ≡ i → l ≡ k → cell_at (changed rows i k None) j l ≡ Some u → ⊥
    empty j l u j_is l_is e =
        let both : None ≡ Some u = sym (cell_same rows i k None image cell) ∙ ap (λ n. cell_at (changed rows i k None) n k) (sym j_is) ∙ ap (cell_at (changed rows i k None) j) (sym l_is) ∙ e in cc

-- which cells have a tile then
pub some_changed : (rows : List (List (Option ℕ))) (i k : ℕ) (x : Option ℕ) (j l : ℕ) → i < length rows → k < length (row_at rows i) → is_some (cell_at (changed rows i k x) j l) ≡ cond ((j == i) && (l == k)) (is_some x) (is_some (cell_at rows j l))
some_changed rows i k x j l image cell =
    by_cell i k j l
    (λ b j_is l_is.
    ap (λ n. is_some (cell_at (changed rows i k x) n l)) j_is ∙ ap (λ n. is_some (cell_at (changed rows i k x) i n)) l_is ∙ ap is_some (cell_same rows i k x image cell)
    ∙ sym (ap (λ c. cond c (is_some x) (is_some (cell_at rows j l))) b))
    (λ b. ap is_some (cell_other rows i k x j l image b) ∙ sym (ap (λ c. cond c (is_some x) (is_some (cell_at rows j l))) b))

-- each row is as long as before
pub lengths_changed : (rows : List (List (Option ℕ))) (i k : ℕ) (x : Option ℕ) → i < length rows → (j : ℕ) → length (row_at (changed rows i k x) j) ≡ length (row_at rows j)
lengths_changed rows i k x image j =
    ⊎_elim
    (λ (same : j ≡ i).
    ap (λ n. length (row_at (changed rows i k x) n)) same
    ∙ ap length (get_or-set_same rows i (set (row_at rows i) k x) [] image) ∙ length-set (row_at rows i) k x
    ∙ ap (λ n. length (row_at rows n)) (sym same))
    (λ (other : j ≢ i). ap length (get_or-set_other rows i j (set (row_at rows i) k x) [] other))
    (cases_eq j i)

pub below_rows : (rows : List Row) (i : ℕ) → i < length (rows_of rows) → i < length rows
below_rows rows i below = let long = length-map rows (λ (r : Row). r.cells.items) in omega (arith, below, long)

-- a cell that has a tile is one of the table
pub cell_inside : (rows : List (List (Option ℕ))) (i k : ℕ) → is_some (cell_at rows i k) ≡ true → (i < length rows) × (k < length (row_at rows i))
cell_inside rows i k some = (image, cell)
  where
    cell : k < length (row_at rows i)
    cell = ⊎_elim (λ below. below) (λ past. absurd (true≢false (sym some ∙ ap is_some (get_or_past (row_at rows i) k None past)))) (cases_lt k (length (row_at rows i)))

    image : i < length rows
    image =
        ⊎_elim (λ below. below)
        (λ past.
        let none : row_at rows i ≡ [] = get_or_past rows i [] past in
        absurd (omega (arith, cell, ap length none)))
        (cases_lt i (length rows))

-- what was read of a cell
pub cell_read : (rows : List Row) (i k : ℕ) (row : Row) (slot : Option ℕ) → i < length rows → row ≡ get_or rows i row → k < length (row_at (rows_of rows) i) → slot ≡ get_or row.cells.items k slot → cell_at (rows_of rows) i k ≡ slot
cell_read rows i k row slot below is cell read =
    let there = row_is rows i row below is in
    let short : k < length row.cells.items = subst (λ (r : List (Option ℕ)). k < length r) there cell in
    ap (λ r. get_or r k None) there ∙ sym (get_or_read row.cells.items k slot short read None)
