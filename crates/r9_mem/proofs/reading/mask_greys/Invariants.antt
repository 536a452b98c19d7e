use Rattle.std.proofs.Common.{◌≡◌, ℕ, ◌<◌, get_or}
use Rattle.model_pixel.specs.Channels.{colour_of, grey_of}
use Rattle.r9_mem.proofs.reading.mask_greys.Given as goal

abbrev pub invariant-loop-i : goal.invariant-loop-i
invariant-loop-i l = (k : ℕ) → k < l.i → get_or l.masks k 0 ≡ grey_of (colour_of (get_or l.words k 0))
