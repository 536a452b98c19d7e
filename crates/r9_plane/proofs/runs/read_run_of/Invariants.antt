use Rattle.std.proofs.Common.{◌≡◌, ℕ, ◌+◌, ◌<◌, ◌^◌, get_or}
use Rattle.model_pixel.specs.Rows.{raw_at}
use Rattle.r9_plane.proofs.runs.read_run_of.Given as goal

abbrev pub invariant-loop-i : goal.invariant-loop-i
invariant-loop-i g l = record {
  value : (j : ℕ) → j < l.i → get_or l.raws j 0 ≡ raw_at g.row.DEPTH l.bytes (l.first + j);
  range : (j : ℕ) → j < l.i → get_or l.raws j 0 < 2 ^ g.row.DEPTH;
}
