use Rattle.std.proofs.Common.{◌≡◌, ◌<◌, ◌≤◌, ◌-◌, ℕ, get_or, length}
use Rattle.r9_plane.specs.Pixels.{along}
use Rattle.r9_cells.specs.Rows.{cell_place}
use Rattle.r9_cells.specs.Cells.{place_pixel}
use Rattle.r9_cells.proofs.table.Cells.read.Given as goal

abbrev pub invariant-loop-done : goal.invariant-loop-done
invariant-loop-done l = record {
  within : l.done ≤ length l.raws;
  read : (k : ℕ) → k < l.done → get_or l.raws k 0 ≡ place_pixel l.self (cell_place l.i l.r (along l.from k));
}

abbrev pub decreases-loop-done : goal.decreases-loop-done
decreases-loop-done l = length l.initial.raws - l.done
