use Rattle.std.proofs.Common.{◌≡◌, ◌+◌, ◌-◌, drop, length}
use Rattle.r9_locate.specs.locate.Table.{shape}
use Rattle.r9_cells.specs.Cells.{all_rows}
use Rattle.r9_cells.specs.Fitting.{wanted_among}
use Rattle.r9_cells.proofs.table.Cells.wanted_from.Given as goal

abbrev pub invariant-loop-at : goal.invariant-loop-at
invariant-loop-at l = record {
  counted : l.count + wanted_among (all_rows l.self) (shape l.lists) l.p l.windows l.areas (drop l.at l.windows) ≡ wanted_among (all_rows l.self) (shape l.lists) l.p l.windows l.areas (drop l.from l.windows);
}

abbrev pub decreases-loop-at : goal.decreases-loop-at
decreases-loop-at l = length l.windows - l.at
