-- A table of images in which one comes or goes.
use Rattle.std.proofs.Common.{◌≡◌, ◌≢◌, ◌∙◌, ℕ, zero, suc, ◌<◌, List, [], ◌∷◌, ◌++◌, length, replicate, set, Option, Some, None, refl, sym, ap, subst, ⊎_elim, arith, eq-eqb}
use Rattle.std.specs.Prelude.{◌==◌, ◌&&◌, not, is_some, slice_index_or, if◌then◌else◌}
use Rattle.std.proofs.Math.ListN.{length-set}
use Rattle.std.proofs.lemmas.Bool.{cases_eq, ne_eqb}
use Rattle.std.proofs.lemmas.List.{get_or-set_other, get_or-set_same, get_or_past, length-replicate, length_push}
use Rattle.std.proofs.lemmas.Nat.{pow_pos}
use Rattle.r9_geom.specs.declared.Point.{Point}
use Rattle.r9_geom.specs.Geometry.{IsOrdered, IsRectNear}
use Rattle.model_pixel.specs.Channels.{depth}
use Rattle.model_kept.specs.Cells.{cell_count}
use Rattle.r9_cells.specs.declared.table.Cells.{Cells}
use Rattle.r9_cells.specs.Cells.{all_rows, cell_pixel, tiles_in}
use Rattle.r9_cells.specs.Fitting.{IsCelled}
use Rattle.r9_cells.specs.Rows.{cell_at, row_at}
use Rattle.r9_cells.proofs.Remade.{blank_replicate, cell_blank, row_more}
use Rattle.r9_pixels.specs.declared.own.Extent.{Extent}
use Rattle.r9_pixels.specs.declared.own.Own.{Own}
use Rattle.r9_pixels.specs.declared.own.Own.TheVariants.{Hidden}
use Rattle.r9_pixels.specs.Owns.{own_at, IsTabled, IsWithinBits}
use Rattle.r9_pixels.proofs.Owning.{celled_as, extent_is, hidden_set, none_window, own_other, own_same}
use Rattle.r9_pixels.proofs.Taking.{none_is}
use Rattle.r9_pixels.proofs.Telling.{no_pixel, pixel_same}

-- ---- a number more

pub own_more : (owns : List (Option Own)) (n : ℕ) → own_at (owns ++ (None ∷ [])) n ≡ own_at owns n
own_more [] zero = refl
own_more [] (suc n) = refl
own_more (o ∷ owns) zero = refl
own_more (o ∷ owns) (suc n) = own_more owns n

pub cell_more : (rows : List (List (Option ℕ))) (j l : ℕ) → cell_at (rows ++ ([] ∷ [])) j l ≡ cell_at rows j l
cell_more rows j l = ap (λ (row : List (Option ℕ)). slice_index_or row l None) (row_more rows j)

pub more_tabled : (owns : List (Option Own)) (rows : List (List (Option ℕ))) → IsTabled owns rows → IsTabled (owns ++ (None ∷ [])) (rows ++ ([] ∷ []))
more_tabled owns rows tabled =
    let longer = length_push rows [] in
    let more = length_push owns None in
    record {
      numbers = omega (arith, longer, more, tabled.numbers);
      windows = λ j extent is.
          celled_as rows (rows ++ ([] ∷ [])) j extent.r (omega (arith, longer)) (ap length (row_more rows j))
          (tabled.windows j extent (sym (own_more owns j) ∙ is));
      others = λ j k no. cell_more rows j k ∙ tabled.others j k (λ extent is. no extent (own_more owns j ∙ is));
    }

-- ---- a window comes, with cells that have no tile

pub made_cells : (owns : List (Option Own)) (i n : ℕ) (old new : Cells) → i < length owns → own_at owns i ≡ None → all_rows new ≡ set (all_rows old) i (replicate n None) → IsTabled owns (all_rows old) → (j l : ℕ) → cell_at (all_rows new) j l ≡ cell_at (all_rows old) j l
made_cells owns i n old new below free rows tabled j l =
    ap (λ (rs : List (List (Option ℕ))). cell_at rs j l) rows
    ∙ cell_blank (all_rows old) i (replicate n None) (omega (arith, below, tabled.numbers))
    (λ k. tabled.others i k (none_window (own_at owns i) free)) (blank_replicate n) j l

pub made_tabled : (owns : List (Option Own)) (i n : ℕ) (extent : Extent) (old new : Cells) → i < length owns → own_at owns i ≡ None → all_rows new ≡ set (all_rows old) i (replicate n None) → IsRectNear extent.r → IsOrdered extent.r → n ≡ cell_count extent.r → IsTabled owns (all_rows old) → IsTabled (set owns i (Some (Hidden extent))) (all_rows new)
made_tabled owns i n extent old new below free rows near ordered count tabled = record {
  numbers = ap length rows ∙ same_length ∙ tabled.numbers ∙ sym (length-set owns i (Some (Hidden extent)));
  windows = λ j other is.
      ⊎_elim
      (λ (same : j ≡ i).
      let one : extent ≡ other = extent_is extent other (sym (own_same owns i (Some (Hidden extent)) below) ∙ ap (own_at (set owns i (Some (Hidden extent)))) (sym same) ∙ is) in
      subst (λ (m : ℕ). IsCelled (all_rows new) m other.r) (sym same) (subst (λ (e : Extent). IsCelled (all_rows new) i e.r) one celled))
      (λ (apart : j ≢ i).
      celled_as (all_rows old) (all_rows new) j other.r (omega (arith, ap length rows, same_length)) (ap (λ (rs : List (List (Option ℕ))). length (row_at rs j)) rows ∙ ap length (get_or-set_other (all_rows old) i j (replicate n None) [] apart))
      (tabled.windows j other (sym (own_other owns i j (Some (Hidden extent)) apart) ∙ is)))
      (cases_eq j i);
  others = λ j k no.
      ⊎_elim
      (λ (same : j ≡ i). absurd (no extent (ap (own_at (set owns i (Some (Hidden extent)))) same ∙ own_same owns i (Some (Hidden extent)) below)))
      (λ (apart : j ≢ i).
      made_cells owns i n old new below free rows tabled j k
      ∙ tabled.others j k (λ other is. no other (own_other owns i j (Some (Hidden extent)) apart ∙ is)))
      (cases_eq j i);
}
  where
    same_length : length (set (all_rows old) i (replicate n None)) ≡ length (all_rows old)
    same_length = length-set (all_rows old) i (replicate n None)

    celled : IsCelled (all_rows new) i extent.r
    celled = record {
      near = near;
      ordered = ordered;
      image = omega (arith, below, tabled.numbers, ap length rows, same_length);
      cells =
          ap (λ (rs : List (List (Option ℕ))). length (row_at rs i)) rows
          ∙ ap length (get_or-set_same (all_rows old) i (replicate n None) [] (omega (arith, below, tabled.numbers)))
          ∙ length-replicate {A = Option ℕ} n None ∙ count;
    }

pub made_bounded : (owns : List (Option Own)) (i : ℕ) (extent : Extent) (old new : Cells) → i < length owns → ((l : ℕ) → cell_at (all_rows new) i l ≡ None) → ((j l : ℕ) (q : Point) → cell_pixel new j l q ≡ cell_pixel old j l q) → IsWithinBits owns old → IsWithinBits (set owns i (Some (Hidden extent))) new
made_bounded owns i extent old new below none same bounded = λ j l q other is.
    ⊎_elim
    (λ (here : j ≡ i).
    let zero_pixel = no_pixel new j l q (ap (λ m. cell_at (all_rows new) m l) here ∙ none l) in
    let some = pow_pos (depth other.chan) in
    omega (arith, zero_pixel, some))
    (λ (apart : j ≢ i).
    let was = bounded j l q other (sym (own_other owns i j (Some (Hidden extent)) apart) ∙ is) in
    omega (arith, was, same j l q))
    (cases_eq j i)

-- ---- an image goes

-- the cells of one image lost their tiles, and then it has none
pub record IsGone (i : ℕ) (old mid new : Cells) : Type 0 where
  pub below : i < length (all_rows old)
  pub pixels : (j l : ℕ) (q : Point) → cell_pixel mid j l q ≡ (if is_some (cell_at (all_rows mid) j l) then cell_pixel old j l q else 0)
  pub given : (j l : ℕ) → is_some (cell_at (all_rows mid) j l) ≡ (not (j == i) && is_some (cell_at (all_rows old) j l))
  pub long : length (all_rows mid) ≡ length (all_rows old)
  pub lengths : (j : ℕ) → length (row_at (all_rows mid) j) ≡ length (row_at (all_rows old) j)
  pub rows : all_rows new ≡ set (all_rows mid) i []
  pub store : tiles_in new ≡ tiles_in mid

mid_none : (i : ℕ) (old mid new : Cells) → IsGone i old mid new → (l : ℕ) → cell_at (all_rows mid) i l ≡ None
mid_none i old mid new gone l =
    none_is (cell_at (all_rows mid) i l) (gone.given i l ∙ ap (λ b. not b && is_some (cell_at (all_rows old) i l)) (eq-eqb i i refl))

gone_cell : (i : ℕ) (old mid new : Cells) → IsGone i old mid new → (j l : ℕ) → cell_at (all_rows new) j l ≡ cell_at (all_rows mid) j l
gone_cell i old mid new gone j l =
    ap (λ (rs : List (List (Option ℕ))). cell_at rs j l) gone.rows
    ∙ cell_blank (all_rows mid) i [] (omega (arith, gone.below, gone.long)) (mid_none i old mid new gone) (λ k. get_or_past [] k None (omega arith)) j l

pub gone_held : (i : ℕ) (old mid new : Cells) → IsGone i old mid new → (j l : ℕ) → j ≢ i → is_some (cell_at (all_rows new) j l) ≡ is_some (cell_at (all_rows old) j l)
gone_held i old mid new gone j l apart =
    ap is_some (gone_cell i old mid new gone j l) ∙ gone.given j l
    ∙ ap (λ b. not b && is_some (cell_at (all_rows old) j l)) (ne_eqb j i apart)

pub gone_pixel : (i : ℕ) (old mid new : Cells) → IsGone i old mid new → (j l : ℕ) (q : Point) → j ≢ i → cell_pixel new j l q ≡ cell_pixel old j l q
gone_pixel i old mid new gone j l q apart =
    pixel_same mid new (gone_cell i old mid new gone) gone.store j l q
    ∙ gone.pixels j l q
    ∙ ap (λ b. if b then cell_pixel old j l q else 0) (gone.given j l ∙ ap (λ b. not b && is_some (cell_at (all_rows old) j l)) (ne_eqb j i apart))
    ∙ by_tile (cell_at (all_rows old) j l) refl
  where
    by_tile : (o : Option ℕ) → cell_at (all_rows old) j l ≡ o → (if is_some (cell_at (all_rows old) j l) then cell_pixel old j l q else 0) ≡ cell_pixel old j l q
    by_tile None e = ap (λ o. if is_some o then cell_pixel old j l q else 0) e ∙ sym (no_pixel old j l q e)
    by_tile (Some t) e = ap (λ o. if is_some o then cell_pixel old j l q else 0) e

pub gone_tabled : (owns : List (Option Own)) (i : ℕ) (old mid new : Cells) → i < length owns → IsGone i old mid new → IsTabled owns (all_rows old) → IsTabled (set owns i None) (all_rows new)
gone_tabled owns i old mid new below gone tabled =
    let long : length (all_rows new) ≡ length (all_rows old) = ap length gone.rows ∙ length-set (all_rows mid) i [] ∙ gone.long in
    record {
      numbers = long ∙ tabled.numbers ∙ sym (length-set owns i None);
      windows = λ j extent is.
          let was = hidden_set owns i j None extent below (none_window None refl) is in
          celled_as (all_rows old) (all_rows new) j extent.r (omega (arith, long))
          (ap (λ (rs : List (List (Option ℕ))). length (row_at rs j)) gone.rows ∙ ap length (get_or-set_other (all_rows mid) i j [] [] was.0) ∙ gone.lengths j)
          (tabled.windows j extent was.1);
      others = λ j k no.
          ⊎_elim
          (λ (same : j ≡ i). gone_cell i old mid new gone j k ∙ ap (λ n. cell_at (all_rows mid) n k) same ∙ mid_none i old mid new gone k)
          (λ (apart : j ≢ i).
          none_is (cell_at (all_rows new) j k)
          (gone_held i old mid new gone j k apart ∙ ap is_some (tabled.others j k (λ extent is. no extent (own_other owns i j None apart ∙ is)))))
          (cases_eq j i);
    }

pub gone_bounded : (owns : List (Option Own)) (i : ℕ) (old mid new : Cells) → i < length owns → IsGone i old mid new → IsWithinBits owns old → IsWithinBits (set owns i None) new
gone_bounded owns i old mid new below gone bounded = λ j l q extent is.
    let was = hidden_set owns i j None extent below (none_window None refl) is in
    let bound = bounded j l q extent was.1 in
    omega (arith, gone_pixel i old mid new gone j l q was.0, bound)
