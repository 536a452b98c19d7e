use Rattle.std.proofs.Common.{◌≡◌}
use Rattle.std.specs.List.{list_all}
use Rattle.model_pixel.specs.Channels.{channels, is_channel}
use Rattle.r9_chan.proofs.descriptor.are_channels.Given as goal

abbrev pub invariant-loop-rest : goal.invariant-loop-rest
invariant-loop-rest l = list_all is_channel (channels l.rest) ≡ list_all is_channel (channels l.word)

abbrev pub decreases-loop-rest : goal.decreases-loop-rest
decreases-loop-rest l = l.rest
