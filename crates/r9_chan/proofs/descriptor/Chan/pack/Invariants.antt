use Rattle.std.proofs.Common.{◌≡◌, ◌+◌, ◌*◌, ◌^◌, ◌<◌, true}
use Rattle.std.specs.List.{list_all}
use Rattle.model_pixel.specs.Channels.{channels, depth, is_channel, packed}
use Rattle.r9_chan.proofs.descriptor.Chan.pack.Given as goal

abbrev pub invariant-loop-rest : goal.invariant-loop-rest
invariant-loop-rest l = record {
  same : l.raw + 2 ^ l.shift * packed (channels l.rest) l.colour ≡ packed (channels l.self) l.colour;
  below : l.raw < 2 ^ l.shift;
  room : l.shift + depth l.rest ≡ depth l.self;
  sound : list_all is_channel (channels l.rest) ≡ true;
}

abbrev pub decreases-loop-rest : goal.decreases-loop-rest
decreases-loop-rest l = l.rest
