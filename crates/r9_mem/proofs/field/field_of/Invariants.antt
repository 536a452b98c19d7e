use Rattle.std.proofs.Common.{◌≡◌, ℕ, ◌+◌, ◌/◌, ◌^◌, true}
use Rattle.std.specs.List.{list_all}
use Rattle.model_pixel.specs.Channels.{channels, depth, is_channel, level}
use Rattle.r9_mem.proofs.field.field_of.Given as goal

abbrev pub invariant-loop-rest : goal.invariant-loop-rest
invariant-loop-rest l = record {
  same : (n raw : ℕ) → level l.kind n (channels l.rest) (raw / 2 ^ l.low) ≡ level l.kind n (channels l.word) raw;
  room : l.low + depth l.rest ≡ depth l.word;
  sound : list_all is_channel (channels l.rest) ≡ true;
}

abbrev pub decreases-loop-rest : goal.decreases-loop-rest
decreases-loop-rest l = l.rest
