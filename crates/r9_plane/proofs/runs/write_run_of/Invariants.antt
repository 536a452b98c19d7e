use Rattle.std.proofs.Common.{get_or}
use Rattle.r9_plane.proofs.RunLemmas.{Copied}
use Rattle.r9_plane.proofs.runs.write_run_of.Given as goal

abbrev pub invariant-loop-i : goal.invariant-loop-i
invariant-loop-i g l = Copied g.row.DEPTH l.first l.i (λ j. get_or l.raws j 0) l.fn.bytes l.bytes
