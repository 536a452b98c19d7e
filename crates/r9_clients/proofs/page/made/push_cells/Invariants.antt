use Rattle.std.proofs.Common.{◌≡◌, ◌++◌, ◌-◌}
use Rattle.std.specs.List.{flat_map, range_with_len}
use Rattle.model_clients.specs.page.Text.{cell, cells}
use Rattle.r9_clients.specs.page.Shown.{shape_of}
use Rattle.r9_clients.proofs.page.made.push_cells.Given as goal

abbrev pub invariant-loop-code : goal.invariant-loop-code
invariant-loop-code l =
    l.out ++ flat_map (cell (shape_of l.shape)) (range_with_len l.code (cells - l.code)) ≡ l.initial.out ++ flat_map (cell (shape_of l.shape)) (range_with_len 0 cells)
