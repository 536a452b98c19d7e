use Rattle.model_world.proofs.Waking.{session_sleeps}
use Rattle.model_world.proofs.sleeping_reads_wait_on.Goals as goal

pub returns : goal.returns
returns c = session_sleeps
