use Rattle.std.proofs.Common.{◌≡◌, ◌++◌, ℕ, Bool}
use Rattle.std.specs.Prelude.{All, filter}
use Rattle.r9_marks.specs.marks.Cells.{cells_in}
use Rattle.model_mirror.specs.Sent.{sent_after}
use Rattle.r9_hall.specs.hall.WorldView.{display_in}
use Rattle.r9_serve.specs.sending.Cells.{pairs_of, IsCellOf}
use Rattle.r9_serve.proofs.sending.Lists.{row_to}
use Rattle.r9_serve.proofs.sending.cells.Sending.cells.Given as goal

abbrev pub invariant-loop-row : goal.invariant-loop-row
invariant-loop-row l = record {
  cells : pairs_of l.cells.items ≡ filter (λ cell. sent_after l.self.resized l.self.old l.self.new (display_in l.world).marked cell.0 cell.1) (cells_in l.across l.row);
  within : All (IsCellOf (display_in l.world).r) l.cells.items;
}

abbrev pub invariant-loop-column : goal.invariant-loop-column
invariant-loop-column l = record {
  cells :
      pairs_of l.cells.items
      ≡ filter (λ cell. sent_after l.self.resized l.self.old l.self.new (display_in l.world).marked cell.0 cell.1) (cells_in l.across l.row)
      ++ filter (λ cell. sent_after l.self.resized l.self.old l.self.new (display_in l.world).marked cell.0 cell.1) (row_to l.row l.column);
  within : All (IsCellOf (display_in l.world).r) l.cells.items;
}
