use Rattle.std.proofs.Common.{◌+◌}
use Rattle.model_pixel.specs.Rows.{raw_at}
use Rattle.r9_plane.proofs.RunLemmas.{Copied}
use Rattle.r9_plane.proofs.runs.copy_pixels.Given as goal

abbrev pub invariant-loop-i : goal.invariant-loop-i
invariant-loop-i l = Copied l.depth l.first l.i (λ j. raw_at l.depth l.from (l.from_first + j)) l.fn.bytes l.bytes
