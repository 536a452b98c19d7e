use Rattle.std.proofs.Common.{◌≡◌, ◌+◌}
use Rattle.model_pixel.specs.Channels.{count_of}
use Rattle.r9_chan.proofs.descriptor.count_of.Given as goal

abbrev pub invariant-loop-rest : goal.invariant-loop-rest
invariant-loop-rest l = l.count + count_of l.kind l.rest ≡ count_of l.kind l.word

abbrev pub decreases-loop-rest : goal.decreases-loop-rest
decreases-loop-rest l = l.rest
