-- Fonts whose characters are near: one without points is, and stays so with one more that is near.
use Rattle.std.proofs.Common.{◌≡◌, ℕ, Bool, true, false, Ok, ap, subst, arith}
use Rattle.std.specs.Prelude.{not, slice_set}
use Rattle.std.specs.Result.{result_unwrap_or}
use Rattle.std.proofs.lemmas.Int.{ints}
use Rattle.std.proofs.lemmas.List.Elements.{All-replicate, All-set}
use Rattle.r9_geom.specs.Geometry.{IsNearBy, IsRectNearBy}
use Rattle.model_text.specs.text.Outcome.{Outcome, ◌>>=◌, refuse_if}
use Rattle.model_draw_parts.specs.declared.fonts.Cell.{Cell}
use Rattle.model_draw_parts.specs.fonts.Font.{Font, AreWithin, empty_cell, has_index, new_font, no_point, with_cell}

no_point-near : (n : ℕ) → IsNearBy n no_point
no_point-near n = record { left = omega (arith, ints); right = omega (arith, ints); top = omega (arith, ints); bottom = omega (arith, ints) }

pub within-new : (n size ascent : ℕ) → AreWithin n (new_font size ascent).cells
within-new n size ascent = All-replicate (λ (c : Cell). IsRectNearBy n c.r) size empty_cell (record { min = no_point-near n; max = no_point-near n })

pub within-with : (n : ℕ) (font changed : Font) (index : ℕ) (c : Cell) → IsRectNearBy n c.r → AreWithin n font.cells → with_cell font index c ≡ Ok changed → AreWithin n changed.cells
unfolding with_cell
within-with n font changed index c near all set = by_cases (has_index font index) set
  where
    by_cases : (has : Bool) → (refuse_if (not has) 15 >>= λ _. Ok (record font { cells = slice_set font.cells index c })) ≡ Ok changed → AreWithin n changed.cells
    by_cases true is =
        subst (AreWithin n) (ap (λ (o : Outcome Font). (result_unwrap_or o font).cells) is) (All-set (λ (cell : Cell). IsRectNearBy n cell.r) font.cells index c near all)
    by_cases false is = absurd cc
