use Rattle.std.proofs.Common.{◌≡◌, ℕ, ◌*◌, ◌<◌, ◌≤◌, get_or}
use Rattle.model_client.specs.cursor.Rows.{over_byte}
use Rattle.r9_cursor.proofs.over.Given as goal

abbrev pub invariant-loop-row : goal.invariant-loop-row
invariant-loop-row l = record {
  done : (j : ℕ) → j < l.row * l.line_len → get_or l.rows j 0 ≡ over_byte l.fn.r l.fn.chan l.fn.at l.initial.rows j;
  rest : (j : ℕ) → l.row * l.line_len ≤ j → get_or l.rows j 0 ≡ get_or l.initial.rows j 0;
  bytes : (j : ℕ) → get_or l.initial.rows j 0 < 256;
}
