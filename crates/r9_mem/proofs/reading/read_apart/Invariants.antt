use Rattle.std.proofs.Common.{◌≡◌, ℕ, ◌<◌, get_or}
use Rattle.model_pixel.specs.Channels.{colour_of}
use Rattle.r9_mem.specs.Fields.{seen}
use Rattle.r9_mem.proofs.reading.read_apart.Given as goal

abbrev pub invariant-loop-i : goal.invariant-loop-i
invariant-loop-i l = (k : ℕ) → k < l.i → colour_of (get_or l.words k 0) ≡ seen l.fn.fields (get_or l.raws k 0)
