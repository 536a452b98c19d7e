use Rattle.std.proofs.Common.{◌≡◌, ◌≤◌, ◌<◌, ◌-◌, ◌*◌, ◌%◌, ◌^◌, take, length, true}
use Rattle.std.specs.List.{list_all}
use Rattle.model_pixel.specs.Channels.{channels, is_channel, name}
use Rattle.r9_chan.proofs.descriptor.Chan.from_text.Given as goal

abbrev pub invariant-loop-at : goal.invariant-loop-at
invariant-loop-at l = record {
  pairs : l.at % 2 ≡ 0;
  within : l.at ≤ length l.bytes;
  below : l.word < 2 ^ (4 * l.at);
  sound : list_all is_channel (channels l.word) ≡ true;
  read : name l.word ≡ take l.at l.bytes;
}

abbrev pub decreases-loop-at : goal.decreases-loop-at
decreases-loop-at l = length l.bytes - l.at
