use Rattle.std.proofs.Common.{ap, ◌∙◌}
use Rattle.model_pixel.specs.Channels.{is_depth}
use Rattle.r9_chan.proofs.ChannelLemmas.{is_depth_of}
use Rattle.r9_chan.proofs.descriptor.Chan.depth.Goals as goal

pub returns-clause-range : goal.returns-clause-range
returns-clause-range c = ap is_depth c.depth_of.ensures ∙ is_depth_of c.self.inside.word c.self.invariant
