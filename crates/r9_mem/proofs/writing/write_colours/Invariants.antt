use Rattle.std.proofs.Common.{◌≡◌, ℕ, ◌<◌, get_or}
use Rattle.r9_mem.specs.Fields.{put}
use Rattle.r9_mem.proofs.writing.write_colours.Given as goal

abbrev pub invariant-loop-i : goal.invariant-loop-i
invariant-loop-i l = (k : ℕ) → k < l.i → get_or l.raws k 0 ≡ put l.fn.places (get_or l.words k 0)
