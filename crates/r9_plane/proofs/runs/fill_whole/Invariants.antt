use Rattle.r9_plane.proofs.RunLemmas.{Copied}
use Rattle.r9_plane.proofs.runs.fill_whole.Given as goal

abbrev pub invariant-loop-i : goal.invariant-loop-i
invariant-loop-i g l = Copied g.row.DEPTH l.first l.i (λ _. l.raw) l.fn.bytes l.bytes
