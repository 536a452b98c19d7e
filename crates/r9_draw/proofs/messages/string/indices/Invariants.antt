use Rattle.std.proofs.Common.{◌≡◌, take}
use Rattle.r9_dmsg.specs.Listed.{indices_of}
use Rattle.r9_draw.proofs.messages.string.indices.Given as goal

abbrev pub invariant-loop-k : goal.invariant-loop-k
invariant-loop-k l = l.indices.items ≡ take l.k (indices_of l.asked)
