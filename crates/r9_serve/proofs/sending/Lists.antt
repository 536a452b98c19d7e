-- Cells one after the other, and their text.
use Rattle.std.proofs.Common.{◌≡◌, ◌∙◌, ℕ, zero, suc, ◌+◌, ◌-◌, ◌*◌, ◌<◌, ◌≤◌, Bool, true, false, List, [], ◌∷◌, ◌++◌, cond, map, take, get_or, length, refl, ap, sym, subst, append-nil, append_assoc, arith}
use Rattle.std.specs.Prelude.{filter}
use Rattle.std.specs.List.{flat_map, range_with_len}
use Rattle.std.proofs.lemmas.Grind.{flat_map-append}
use Rattle.std.proofs.lemmas.List.{map_push, take_all, take_more}
use Rattle.std.proofs.lemmas.List.Elements.{filter-append}
use Rattle.std.proofs.lemmas.List.Folds.{flat_map-map}
use Rattle.std.proofs.lemmas.List.FromFn.{filter_of_map_range_with_len_more, map-range_with_len_more}
use Rattle.r9_marks.specs.marks.Cells.{cells_in}
use Rattle.model_client.specs.mirror.Picture.{Picture}
use Rattle.model_mirror.specs.Frame.{AreCells, AreRows, place_of, rect_of}
use Rattle.r9_serve.specs.declared.sending.cells.Cell.{Cell}
use Rattle.r9_serve.specs.sending.Cells.{pairs_of, place_line, AreAdded, AreRowsAdded, IsCellAdded}

-- what is gathered for one number more
range_more : (f : ℕ → List (ℕ × ℕ)) (n : ℕ) → flat_map f (range_with_len 0 (n + 1)) ≡ flat_map f (range_with_len 0 n) ++ f n
range_more f n =
    sym (flat_map-map f (λ (k : ℕ). k) (range_with_len 0 (n + 1)))
    ∙ ap (flat_map f) (map-range_with_len_more (λ (k : ℕ). k) 0 n n (omega arith))
    ∙ flat_map-append f (map (λ (k : ℕ). k) (range_with_len 0 n)) (n ∷ [])
    ∙ (λ i. flat_map-map f (λ (k : ℕ). k) (range_with_len 0 n) i ++ append-nil (f n) i)

-- the cells of a row, up to a column
abbrev pub row_to : (row columns : ℕ) → List (ℕ × ℕ)
row_to row columns = map (λ column. (column, row)) (range_with_len 0 columns)

-- those of one row more that pass a test
pub rows_more : (p : ℕ × ℕ → Bool) (across row : ℕ) → filter p (cells_in across (row + 1)) ≡ filter p (cells_in across row) ++ filter p (row_to row across)
rows_more p across row = ap (filter p) (range_more (λ r. row_to r across) row) ∙ filter-append p (cells_in across row) (row_to row across)

-- those of one column more
pub columns_more : (p : ℕ × ℕ → Bool) (rows pairs : List (ℕ × ℕ)) (row column : ℕ) (b : Bool) → pairs ≡ rows ++ filter p (row_to row column) → b ≡ p (column, row)
    → pairs ++ cond b ((column, row) ∷ []) [] ≡ rows ++ filter p (row_to row (column + 1))
columns_more p rows pairs row column b so_far is =
    (λ i. so_far i ++ cond (is i) ((column, row) ∷ []) [])
    ∙ append_assoc rows (filter p (row_to row column)) (cond (p (column, row)) ((column, row) ∷ []) [])
    ∙ ap (λ (more : List (ℕ × ℕ)). rows ++ more) (sym (filter_of_map_range_with_len_more p (λ (c : ℕ). (c, row)) 0 column column (omega arith)))

pub pairs_push : (cells : List Cell) (cell : Cell) → pairs_of (cells ++ cell ∷ []) ≡ pairs_of cells ++ (cell.column, cell.row) ∷ []
pairs_push cells cell = map_push (λ (c : Cell). (c.column, c.row)) cells cell

-- ---- text

-- the text of one cell more
cells_push : (chan : ℕ) (picture : Picture) (cells : List (ℕ × ℕ)) (cell : ℕ × ℕ) (text rows : List ℕ) → AreCells chan picture cells text → AreRows chan picture (rect_of (place_of picture cell)) rows
    → AreCells chan picture (cells ++ cell ∷ []) (text ++ (place_line (place_of picture cell) ++ rows))
cells_push chan picture [] cell text rows are has =
    let line = place_line (place_of picture cell) in
    (rows, [], has, refl, ap (λ (t : List ℕ). t ++ (line ++ rows)) are ∙ sym (append-nil (line ++ rows)))
cells_push chan picture (first ∷ cells) cell text rows are has =
    let line = place_line (place_of picture first) in
    let more = place_line (place_of picture cell) ++ rows in (
      are.0,
      are.1 ++ more,
      are.2,
      cells_push chan picture cells cell are.1 rows are.3 has,
      ap (λ (t : List ℕ). t ++ more) are.4 ∙ append_assoc (line ++ are.0) are.1 more,
    )

-- no cell has been added yet
pub none_added : (chan : ℕ) (picture : Picture) (text : List ℕ) → AreAdded chan picture [] text text
none_added chan picture text = record { added = []; are_cells = refl; text = sym (append-nil text) }

-- one more has
pub added_more : (chan : ℕ) (picture : Picture) (cells : List Cell) (i : ℕ) (cell d : Cell) (old mid new : List ℕ) → i < length cells → cell ≡ get_or cells i d → AreAdded chan picture (pairs_of (take i cells)) old mid
    → IsCellAdded chan picture (cell.column, cell.row) mid new → AreAdded chan picture (pairs_of (take (i + 1) cells)) old new
added_more chan picture cells i cell d old mid new within is so_far next =
    let line = place_line (place_of picture (cell.column, cell.row)) in
    let pairs : pairs_of (take (i + 1) cells) ≡ pairs_of (take i cells) ++ (cell.column, cell.row) ∷ [] =
    ap pairs_of (take_more cells i d within ∙ ap (λ (c : Cell). take i cells ++ c ∷ []) (sym is)) ∙ pairs_push (take i cells) cell in
    record {
      added = so_far.added ++ (line ++ next.rows);
      are_cells = subst (λ (ps : List (ℕ × ℕ)). AreCells chan picture ps (so_far.added ++ (line ++ next.rows))) (sym pairs)
          (cells_push chan picture (pairs_of (take i cells)) (cell.column, cell.row) so_far.added next.rows so_far.are_cells next.are_rows);
      text = next.text ∙ append_assoc mid line next.rows ∙ ap (λ (t : List ℕ). t ++ (line ++ next.rows)) so_far.text ∙ append_assoc old so_far.added (line ++ next.rows);
    }

pub all_added : (chan : ℕ) (picture : Picture) (cells : List Cell) (i : ℕ) (old new : List ℕ) → length cells ≤ i → AreAdded chan picture (pairs_of (take i cells)) old new → AreAdded chan picture (pairs_of cells) old new
all_added chan picture cells i old new all so_far = subst (λ (some : List Cell). AreAdded chan picture (pairs_of some) old new) (take_all i cells all) so_far

-- a cell is added by its line and its rows
pub cell_added : (chan : ℕ) (picture : Picture) (cell : ℕ × ℕ) (old mid new : List ℕ) → mid ≡ old ++ place_line (place_of picture cell) → AreRowsAdded chan picture (rect_of (place_of picture cell)) mid new
    → IsCellAdded chan picture cell old new
cell_added chan picture cell old mid new line added =
    record { rows = added.rows; are_rows = added.are_rows; text = added.text ∙ ap (λ (t : List ℕ). t ++ added.rows) line }
