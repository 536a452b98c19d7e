-- The characters of a font of which only those that were set are kept.
use Rattle.std.proofs.Common.{◌≡◌, ◌≢◌, ℕ, ◌<◌, cond, eqb, true, false, List, length, get_or, replicate, Option, Some, None, Result, Ok, Err, OnOk, nat_cmp, inl, inr, refl, sym, ap, subst, ◌∙◌, arith}
use Rattle.std.specs.Prelude.{nat_lt, slice_set}
use Rattle.std.specs.Option.{unwrap_or}
use Rattle.std.specs.BTreeMap.{is_at}
use borrow.Author.Tests.{ltb-true}
use Rattle.std.proofs.lemmas.Bool.{cases_eq}
use Rattle.std.proofs.lemmas.List.{get_or-replicate, get_or-set_other, get_or-set_same, length-replicate, length-set}
use Rattle.std.proofs.lemmas.List.FromFn.{length-map-range_with_len, get_or-map-range_with_len, fill_by_all}
use Rattle.model_text.proofs.map.Keys.{at_key, eqb-same, not_key}
use Rattle.r9_geom.specs.Geometry.{IsRectNearBy}
use Rattle.model_draw_parts.specs.declared.fonts.Cell.{Cell}
use Rattle.model_draw_parts.specs.fonts.Font.{AreWithin, Font, cell, empty_cell, has_index, new_font, with_cell}
use Rattle.r9_fonts.specs.Kept.{cells_of}

pub length-cells_of : (n : ℕ) (set : ℕ → Option Cell) → length (cells_of n set) ≡ n
unfolding cells_of
length-cells_of n set = length-map-range_with_len (λ i. unwrap_or (set i) empty_cell) 0 n

pub cell-cells_of : (n : ℕ) (set : ℕ → Option Cell) (index : ℕ) → index < n → cell (cells_of n set) index ≡ unwrap_or (set index) empty_cell
unfolding cells_of
cell-cells_of n set index h = get_or-map-range_with_len (λ i. unwrap_or (set i) empty_cell) 0 n index index empty_cell h (omega arith)

-- one that agrees with a list at each index is it
is_cells_of : (n : ℕ) (set : ℕ → Option Cell) (cells : List Cell) → length cells ≡ n → ((k : ℕ) → k < n → get_or cells k empty_cell ≡ unwrap_or (set k) empty_cell) → cells ≡ cells_of n set
unfolding cells_of
is_cells_of n set cells same at = fill_by_all (λ i. unwrap_or (set i) empty_cell) cells n empty_cell same at

pub cells_of-none : (n : ℕ) (set : ℕ → Option Cell) → ((i : ℕ) → set i ≡ None) → cells_of n set ≡ replicate n empty_cell
cells_of-none n set none =
    sym (is_cells_of n set (replicate n empty_cell) (length-replicate n empty_cell) (λ k h. get_or-replicate n k empty_cell empty_cell h ∙ ap (λ (o : Option Cell). unwrap_or o empty_cell) (sym (none k))))

-- what a map from indices has at the index that was set, and at the others
there : (after before : ℕ → Option Cell) (index : ℕ) (c : Cell) (k : ℕ) → k ≡ index → after k ≡ cond (is_at (nat_cmp index) k) (Some c) (before k) → after k ≡ Some c
there after before index c k same sets =
    sets ∙ ap (λ b. cond b (Some c) (before k)) (at_key index k ∙ ap (λ n. eqb n index) same ∙ eqb-same index)

elsewhere : (after before : ℕ → Option Cell) (index : ℕ) (c : Cell) (k : ℕ) → k ≢ index → after k ≡ cond (is_at (nat_cmp index) k) (Some c) (before k) → after k ≡ before k
elsewhere after before index c k other sets =
    sets ∙ ap (λ b. cond b (Some c) (before k)) (at_key index k ∙ not_key k index other)

pub cells_of-set : (n : ℕ) (before after : ℕ → Option Cell) (index : ℕ) (c : Cell) → index < n → ((q : ℕ) → after q ≡ cond (is_at (nat_cmp index) q) (Some c) (before q))
    → cells_of n after ≡ slice_set (cells_of n before) index c
cells_of-set n before after index c h sets =
    sym (is_cells_of n after (slice_set (cells_of n before) index c) (length-set (cells_of n before) index c ∙ length-cells_of n before) at)
  where
    one : Option Cell → Cell
    one o = unwrap_or o empty_cell

    at_index : (k : ℕ) → k ≡ index → get_or (slice_set (cells_of n before) index c) k empty_cell ≡ one (after k)
    at_index k same =
        let within : index < length (cells_of n before) = omega (arith, h, length-cells_of n before) in
        ap (λ i. get_or (slice_set (cells_of n before) index c) i empty_cell) same
        ∙ get_or-set_same (cells_of n before) index c empty_cell within
        ∙ ap one (sym (there after before index c k same (sets k)))

    at : (k : ℕ) → k < n → get_or (slice_set (cells_of n before) index c) k empty_cell ≡ one (after k)
    at k l = elim (cases_eq k index) [
      | inl same ↦ at_index k same
      | inr other ↦
          get_or-set_other (cells_of n before) index k c empty_cell other ∙ cell-cells_of n before k l ∙ ap one (sym (elsewhere after before index c k other (sets k)))
    ]

-- ---- a font whose characters are kept so

abbrev pub kept : (ascent n : ℕ) → (ℕ → Option Cell) → Font
kept ascent n set = record { ascent = ascent; cells = cells_of n set }

pub has-kept : (font : Font) (n : ℕ) (set : ℕ → Option Cell) (index : ℕ) → cells_of n set ≡ font.cells → nat_lt index n ≡ has_index font index
has-kept font n set index same = ap (nat_lt index) (sym (length-cells_of n set)) ∙ ap (λ (cells : List Cell). nat_lt index (length cells)) same

below : (font : Font) (n : ℕ) (set : ℕ → Option Cell) (index : ℕ) → cells_of n set ≡ font.cells → has_index font index ≡ true → index < n
below font n set index same has = let e = has-kept font n set index same ∙ has in omega (arith, ltb-true)

pub cell-kept : (font : Font) (n : ℕ) (set : ℕ → Option Cell) (index : ℕ) (found : Option Cell) → cells_of n set ≡ font.cells → has_index font index ≡ true → found ≡ set index
    → unwrap_or found empty_cell ≡ cell font.cells index
cell-kept font n set index found same has is =
    ap (λ (o : Option Cell). unwrap_or o empty_cell) is ∙ sym (cell-cells_of n set index (below font n set index same has)) ∙ ap (λ (cells : List Cell). cell cells index) same

pub near-kept : (m : ℕ) (font : Font) (n : ℕ) (set : ℕ → Option Cell) (index : ℕ) (found : Option Cell) → cells_of n set ≡ font.cells → has_index font index ≡ true → found ≡ set index
    → AreWithin m (cells_of n set) → IsRectNearBy m (unwrap_or found empty_cell).r
near-kept m font n set index found same has is near =
    let lt = below font n set index same has in
    subst (λ (c : Cell). IsRectNearBy m c.r)
    (cell-cells_of n set index lt ∙ ap (λ (o : Option Cell). unwrap_or o empty_cell) (sym is))
    (near index empty_cell (omega (arith, lt, length-cells_of n set)))

pub new-kept : (ascent n : ℕ) (set : ℕ → Option Cell) → ((i : ℕ) → set i ≡ None) → kept ascent n set ≡ new_font n ascent
new-kept ascent n set none = λ i. record { ascent = ascent; cells = cells_of-none n set none i }

pub without-kept : (font : Font) (index : ℕ) (c : Cell) → has_index font index ≡ false → with_cell font index c ≡ Err 15
unfolding with_cell
without-kept font index c lacks = rw lacks refl

set_in_kept : (ascent n : ℕ) (before after : ℕ → Option Cell) (index : ℕ) (c : Cell) → ((q : ℕ) → after q ≡ cond (is_at (nat_cmp index) q) (Some c) (before q))
    → has_index (kept ascent n before) index ≡ true → with_cell (kept ascent n before) index c ≡ Ok (kept ascent n after)
unfolding with_cell
set_in_kept ascent n before after index c sets has =
    rw has (ap (λ (cells : List Cell). Ok (kept_with ascent cells)) (sym (cells_of-set n before after index c (below (kept ascent n before) n before index refl has) sets)))
  where
    kept_with : ℕ → List Cell → Font
    kept_with ascent cells = record { ascent = ascent; cells = cells }

pub with-kept : (font : Font) (ascent n : ℕ) (before after : ℕ → Option Cell) (index : ℕ) (c : Cell) → kept ascent n before ≡ font → ((q : ℕ) → after q ≡ cond (is_at (nat_cmp index) q) (Some c) (before q))
    → has_index font index ≡ true → with_cell font index c ≡ Ok (kept ascent n after)
with-kept font ascent n before after index c same sets =
    subst (λ (f : Font). has_index f index ≡ true → with_cell f index c ≡ Ok (kept ascent n after)) same (set_in_kept ascent n before after index c sets)

pub on_ok : {A E P : Type 0} (r : Result A E) → P → OnOk r P
on_ok (Ok x) p = p
on_ok (Err e) p = tt
