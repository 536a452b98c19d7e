use Rattle.model_world.proofs.Quiet.{history_few}
use Rattle.model_world.proofs.few_reads_wait.Goals as goal

pub returns : goal.returns
returns c = history_few
