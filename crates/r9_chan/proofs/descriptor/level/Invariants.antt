use Rattle.std.proofs.Common.{◌≡◌, true}
use Rattle.std.specs.List.{list_all}
use Rattle.model_pixel.specs.Channels.{channels, is_channel, level}
use Rattle.r9_chan.proofs.descriptor.level.Given as goal

abbrev pub invariant-loop-rest : goal.invariant-loop-rest
invariant-loop-rest l = record {
  same : level l.kind l.default (channels l.rest) l.bits_left ≡ level l.kind l.default (channels l.word) l.raw;
  sound : list_all is_channel (channels l.rest) ≡ true;
}

abbrev pub decreases-loop-rest : goal.decreases-loop-rest
decreases-loop-rest l = l.rest
