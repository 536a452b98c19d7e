use Rattle.std.proofs.Common.{◌≡◌, ℕ, ◌<◌, get_or}
use Rattle.r9_mem.specs.Fields.{put, greyed}
use Rattle.r9_mem.proofs.writing.write_greys.Given as goal

abbrev pub invariant-loop-i : goal.invariant-loop-i
invariant-loop-i l = (k : ℕ) → k < l.i → get_or l.raws k 0 ≡ put l.fn.places (greyed (get_or l.words k 0))
