-- Tables of cells whose tiles are the same after a row was made or taken away.
use Rattle.std.proofs.Common.{◌≡◌, ◌≢◌, ◌∙◌, ℕ, zero, suc, ◌+◌, ◌<◌, Bool, true, false, List, [], ◌∷◌, ◌++◌, length, get_or, set, replicate, Option, None, refl, sym, ap, subst, arith, ⊎_elim}
use Rattle.std.specs.Prelude.{is_some, slice_index_or, cond}
use Rattle.std.specs.List.{count_by}
use Rattle.std.proofs.lemmas.Bool.{cases_eq, cases_lt}
use Rattle.std.proofs.lemmas.List.{get_or-replicate, get_or-set_other, get_or-set_same, get_or_past, length-replicate, map-set}
use Rattle.std.proofs.lemmas.List.Sums.{sum_by-cons, sum_by-set}
use Rattle.r9_store.specs.Tiles.{Tiles}
use Rattle.r9_cells.specs.declared.table.Row.{Row}
use Rattle.r9_cells.specs.Rows.{cell_at, row_at, rows_of, tiles_of, IsKept}

-- no cell of a row has a tile
abbrev pub IsBlank : List (Option ℕ) → Type 0
IsBlank row = (k : ℕ) → slice_index_or row k None ≡ None

blank_count : (row : List (Option ℕ)) → IsBlank row → count_by is_some row ≡ 0
blank_count [] blank = refl
blank_count (x ∷ row) blank =
    let first = ap is_some (blank 0) in
    let more = blank_count row (λ k. blank (suc k)) in
    let both = sum_by-cons (λ (o : Option ℕ). cond (is_some o) 1 0) x row in
    both ∙ ap (λ b. cond b 1 0 + count_by is_some row) first ∙ omega (arith, more)

pub blank_replicate : (n : ℕ) → IsBlank (replicate n None)
blank_replicate n k =
    ⊎_elim
    (λ (below : k < n). get_or-replicate n k None None below)
    (λ past. get_or_past (replicate n None) k None (omega (arith, past, length-replicate {A = Option ℕ} n None)))
    (cases_lt k n)

-- a row without a tile in the place of another
pub cell_blank : (rows : List (List (Option ℕ))) (i : ℕ) (row : List (Option ℕ)) → i < length rows → IsBlank (row_at rows i) → IsBlank row → (j k : ℕ) → cell_at (set rows i row) j k ≡ cell_at rows j k
cell_blank rows i row below was now j k =
    ⊎_elim
    (λ (same : j ≡ i).
    ap (λ n. cell_at (set rows i row) n k) same
    ∙ ap (λ r. get_or r k None) (get_or-set_same rows i row [] below) ∙ now k ∙ sym (was k)
    ∙ ap (λ n. cell_at rows n k) (sym same))
    (λ (other : j ≢ i). ap (λ r. get_or r k None) (get_or-set_other rows i j row [] other))
    (cases_eq j i)

pub kept-blank : (rows : List (List (Option ℕ))) (i : ℕ) (row : List (Option ℕ)) (store : Tiles) → i < length rows → IsBlank (row_at rows i) → IsBlank row → IsKept rows store → IsKept (set rows i row) store
kept-blank rows i row store below was now is = record {
  all =
      let sum = sum_by-set (λ (r : List (Option ℕ)). count_by is_some r) rows i row [] below in
      let none = blank_count row now in
      let before = blank_count (row_at rows i) was in
      is.all ∙ omega (arith, sum, none, before);
  alive = λ j k t e. is.alive j k t (sym (cell_blank rows i row below was now j k) ∙ e);
  apart = λ j k l m t e f. is.apart j k l m t (sym (cell_blank rows i row below was now j k) ∙ e) (sym (cell_blank rows i row below was now l m) ∙ f);
}

-- the rows after one was set
pub rows_set : (rows : List Row) (i : ℕ) (row : Row) → rows_of (set rows i row) ≡ set (rows_of rows) i row.cells.items
rows_set rows i row = map-set (λ (r : Row). r.cells.items) rows i row

-- one more row, of no cell
pub rows_more : (rows : List Row) (row : Row) → row.cells.items ≡ [] → rows_of (rows ++ (row ∷ [])) ≡ rows_of rows ++ ([] ∷ [])
rows_more [] row none = ap (λ (r : List (Option ℕ)). r ∷ []) none
rows_more (r ∷ rows) row none = ap (λ (rs : List (List (Option ℕ))). r.cells.items ∷ rs) (rows_more rows row none)

pub row_more : (rows : List (List (Option ℕ))) (j : ℕ) → row_at (rows ++ ([] ∷ [])) j ≡ row_at rows j
row_more [] zero = refl
row_more [] (suc j) = refl
row_more (r ∷ rows) zero = refl
row_more (r ∷ rows) (suc j) = row_more rows j

tiles_more : (rows : List (List (Option ℕ))) → tiles_of (rows ++ ([] ∷ [])) ≡ tiles_of rows
tiles_more [] = refl
tiles_more (r ∷ rows) =
    sum_by-cons (λ (row : List (Option ℕ)). count_by is_some row) r (rows ++ ([] ∷ []))
    ∙ ap (λ n. count_by is_some r + n) (tiles_more rows)
    ∙ sym (sum_by-cons (λ (row : List (Option ℕ)). count_by is_some row) r rows)

pub kept-more : (rows : List (List (Option ℕ))) (store : Tiles) → IsKept rows store → IsKept (rows ++ ([] ∷ [])) store
kept-more rows store is = record {
  all = is.all ∙ sym (tiles_more rows);
  alive = λ j k t e. is.alive j k t (ap (λ r. get_or r k None) (sym (row_more rows j)) ∙ e);
  apart = λ j k l m t e f. is.apart j k l m t (ap (λ r. get_or r k None) (sym (row_more rows j)) ∙ e) (ap (λ r. get_or r m None) (sym (row_more rows l)) ∙ f);
}

-- and so where it may have found no memory
pub kept-pushed : (pushed : Bool) (rows : List Row) (row : Row) (new : List Row) (store : Tiles) → row.cells.items ≡ [] → new ≡ cond pushed (rows ++ (row ∷ [])) rows → IsKept (rows_of rows) store → IsKept (rows_of new) store
kept-pushed true rows row new store none now is =
    subst (λ (r : List (List (Option ℕ))). IsKept r store) (sym (ap rows_of now ∙ rows_more rows row none)) (kept-more (rows_of rows) store is)
kept-pushed false rows row new store none now is = subst (λ (r : List (List (Option ℕ))). IsKept r store) (sym (ap rows_of now)) is
