use Rattle.model_pixel.specs.Channels.{expand}
use Rattle.r9_chan.proofs.ChannelLemmas.{same_colour}
use Rattle.r9_chan.proofs.descriptor.Chan.expand.Goals as goal

pub returns : goal.returns
unfolding expand
returns c = same_colour _ _ (cc) (cc) (cc) (cc)
