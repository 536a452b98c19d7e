use Rattle.std.proofs.Common.{◌≡◌, ℕ, ◌<◌, get_or}
use Rattle.model_pixel.specs.Channels.{colour_of, pack}
use Rattle.r9_kern.specs.Layouts.{chan_of}
use Rattle.r9_mem.proofs.writing.write_moved.Given as goal

abbrev pub invariant-loop-i : goal.invariant-loop-i
invariant-loop-i l = (k : ℕ) → k < l.i → get_or l.raws k 0 ≡ pack (chan_of l.layout) (colour_of (get_or l.words k 0))
