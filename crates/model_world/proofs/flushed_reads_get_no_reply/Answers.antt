use Rattle.model_world.proofs.Quiet.{behind_flush}
use Rattle.model_world.proofs.flushed_reads_get_no_reply.Goals as goal

pub returns : goal.returns
returns c = behind_flush
