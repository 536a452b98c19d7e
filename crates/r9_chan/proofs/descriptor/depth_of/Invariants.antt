use Rattle.std.proofs.Common.{◌≡◌, ◌+◌}
use Rattle.model_pixel.specs.Channels.{depth}
use Rattle.r9_chan.proofs.descriptor.depth_of.Given as goal

abbrev pub invariant-loop-rest : goal.invariant-loop-rest
invariant-loop-rest l = l.bits + depth l.rest ≡ depth l.word

abbrev pub decreases-loop-rest : goal.decreases-loop-rest
decreases-loop-rest l = l.rest
