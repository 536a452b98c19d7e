use Rattle.std.proofs.Common.{◌≡◌, ℕ, ◌<◌, ◌≤◌, get_or}
use Rattle.model_client.specs.cursor.Rows.{put_in}
use Rattle.r9_cursor.specs.Bytes.{byte_under}
use Rattle.r9_cursor.proofs.cursor.Cursor.over_row.Given as goal

abbrev pub invariant-loop-k : goal.invariant-loop-k
invariant-loop-k l = record {
  done : (j : ℕ) → j < l.k → get_or l.line j 0 ≡ byte_under l.self.depth (put_in l.self.r l.self.chan l.self.at l.row) j (get_or l.initial.line j 0);
  rest : (j : ℕ) → l.k ≤ j → get_or l.line j 0 ≡ get_or l.initial.line j 0;
  bytes : (j : ℕ) → get_or l.initial.line j 0 < 256;
}
