use Rattle.std.proofs.Common.{◌≡◌, ℕ, ◌<◌, get_or}
use Rattle.r9_mem.specs.Fields.{value}
use Rattle.r9_mem.proofs.reading.mask_single.Given as goal

abbrev pub invariant-loop-i : goal.invariant-loop-i
invariant-loop-i l = (k : ℕ) → k < l.i → get_or l.masks k 0 ≡ value l.fn.field (get_or l.raws k 0)
