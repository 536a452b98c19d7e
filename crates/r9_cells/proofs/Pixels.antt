-- What becomes of the pixels of cells when one gets a tile or loses it.
use Rattle.std.proofs.Common.{◌≡◌, ◌∙◌, ℕ, ◌<◌, false, List, length, Option, Some, None, refl, sym, ap}
use Rattle.std.specs.Prelude.{◌==◌, ◌&&◌, if◌then◌else◌}
use Rattle.std.specs.Option.{option_map_or}
use Rattle.std.proofs.lemmas.Bool.{ne_eqb, true≢false}
use Rattle.r9_geom.specs.declared.Point.{Point}
use Rattle.r9_store.specs.Tiles.{Tiles, cell, pixel}
use Rattle.r9_cells.specs.Rows.{cell_at, pixel_at, row_at, IsKept}
use Rattle.r9_cells.proofs.Changed.{by_cell, cell_other, cell_same, changed}

-- a cell that gets a tile, which is 0 everywhere, shows what it showed
pub pixels-take : (rows : List (List (Option ℕ))) (i k t : ℕ) (store new : Tiles) → i < length rows → k < length (row_at rows i) → cell_at rows i k ≡ None → ((p : Point) → pixel new t p ≡ 0) → ((u : ℕ) (p : Point) → pixel new u p ≡ pixel store u p) → (j l : ℕ) (p : Point) → pixel_at (changed rows i k (Some t)) new j l p ≡ pixel_at rows store j l p
pixels-take rows i k t store new image cell none blank same j l p =
    by_cell i k j l
    (λ b j_is l_is.
    let now : cell_at (changed rows i k (Some t)) j l ≡ Some t = ap (λ n. cell_at (changed rows i k (Some t)) n l) j_is ∙ ap (cell_at (changed rows i k (Some t)) i) l_is ∙ cell_same rows i k (Some t) image cell in
    let was : cell_at rows j l ≡ None = ap (λ n. cell_at rows n l) j_is ∙ ap (cell_at rows i) l_is ∙ none in
    ap (λ o. option_map_or (λ u. pixel new u p) o 0) now ∙ blank p ∙ sym (ap (λ o. option_map_or (λ u. pixel store u p) o 0) was))
    (λ b. ap (λ o. option_map_or (λ u. pixel new u p) o 0) (cell_other rows i k (Some t) j l image b) ∙ alike (cell_at rows j l))
  where
    alike : (o : Option ℕ) → option_map_or (λ u. pixel new u p) o 0 ≡ option_map_or (λ u. pixel store u p) o 0
    alike None = refl
    alike (Some u) = same u p

-- a cell that loses its tile is 0 then, and no other has that tile
pub pixels-give : (rows : List (List (Option ℕ))) (i k t : ℕ) (store new : Tiles) → i < length rows → k < length (row_at rows i) → cell_at rows i k ≡ Some t → ((u : ℕ) (p : Point) → pixel new u p ≡ (if u == t then 0 else pixel store u p)) → IsKept rows store → (j l : ℕ) (p : Point) → pixel_at (changed rows i k None) new j l p ≡ (if (j == i) && (l == k) then 0 else pixel_at rows store j l p)
pixels-give rows i k t store new image cell some given is j l p =
    by_cell i k j l
    (λ b j_is l_is.
    let now : cell_at (changed rows i k None) j l ≡ None = ap (λ n. cell_at (changed rows i k None) n l) j_is ∙ ap (cell_at (changed rows i k None) i) l_is ∙ cell_same rows i k None image cell in
    ap (λ o. option_map_or (λ u. pixel new u p) o 0) now ∙ sym (ap (λ c. if c then 0 else pixel_at rows store j l p) b))
    (λ b.
    ap (λ o. option_map_or (λ u. pixel new u p) o 0) (cell_other rows i k None j l image b)
    ∙ alike b (cell_at rows j l) refl
    ∙ sym (ap (λ c. if c then 0 else pixel_at rows store j l p) b))
  where
    alike : ((j == i) && (l == k)) ≡ false → (o : Option ℕ) → cell_at rows j l ≡ o → option_map_or (λ u. pixel new u p) o 0 ≡ option_map_or (λ u. pixel store u p) (cell_at rows j l) 0
    alike b None e = sym (ap (λ o. option_map_or (λ u. pixel store u p) o 0) e)
    alike b (Some u) e =
        let differ : (u == t) ≡ false = ne_eqb u t (λ u_is. true≢false (sym (is.apart i k j l t some (e ∙ ap (λ n. Some n) u_is)) ∙ b)) in
        given u p ∙ ap (λ c. if c then 0 else pixel store u p) differ ∙ sym (ap (λ o. option_map_or (λ v. pixel store v p) o 0) e)
