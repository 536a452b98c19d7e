use Rattle.std.proofs.Common.{◌≡◌, ◌+◌, ◌≤◌}
use Rattle.std.specs.Prelude.{◌&&◌}
use Rattle.model_kept.specs.Cells.{cell_count}
use Rattle.r9_cells.specs.Cells.{all_rows}
use Rattle.r9_cells.specs.Fitting.{meets, standing_cell, wanted_near, wants}
use Rattle.r9_cells.specs.Walking.{IsAtCell}
use Rattle.r9_cells.proofs.Steps.{rest}
use Rattle.r9_cells.proofs.table.Cells.wanted.Given as goal

abbrev pub invariant-loop-k : goal.invariant-loop-k
invariant-loop-k l = record {
  at : IsAtCell l.walk l.r l.w.place.min l.k;
  counted : l.count + rest (λ k. meets l.areas (standing_cell l.windows l.i l.r k) && wants (all_rows l.self) l.below l.windows l.i l.r k) (cell_count l.r) l.k ≡ wanted_near (all_rows l.self) l.below l.windows l.areas l.i l.r;
  most : l.count ≤ l.k;
}
