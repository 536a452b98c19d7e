use Rattle.r9_dmsg.proofs.Told.{message_there, whole_there, short_there, unknown_there, unsupported_there, memory_there}
use Rattle.r9_dmsg.proofs.reading.next_msg.Goals as goal

pub returns : goal.returns
returns c = record {
  near = c.read.ensures.near;
  message = message_there _ _ c.read.ensures.told;
  whole = whole_there _ _ c.read.ensures.told;
  short = short_there _ _ c.read.ensures.told;
  unknown = unknown_there _ _ c.read.ensures.told;
  unsupported = unsupported_there _ _ c.read.ensures.told;
  memory = memory_there _ _ c.read.ensures.told;
}
