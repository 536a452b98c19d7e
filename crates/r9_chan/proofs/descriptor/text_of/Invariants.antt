use Rattle.std.proofs.Common.{◌≡◌, ◌≤◌, ◌+◌, ◌*◌, ◌/◌, ◌^◌, take}
use Rattle.model_pixel.specs.Channels.{name}
use Rattle.r9_chan.proofs.descriptor.text_of.Given as goal

abbrev pub invariant-loop-place : goal.invariant-loop-place
invariant-loop-place l = record {
  room : l.text.len + 2 * l.place ≤ 8;
  written : take l.text.len l.text.bytes ≡ name (l.word / 2 ^ (8 * l.place));
}

abbrev pub decreases-loop-place : goal.decreases-loop-place
decreases-loop-place l = l.place
