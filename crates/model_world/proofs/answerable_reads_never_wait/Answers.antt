use Rattle.model_world.proofs.Standing.{history_waits, step_waits}
use Rattle.model_world.proofs.answerable_reads_never_wait.Goals as goal

pub returns : goal.returns
returns c = record { turn = step_waits; history = history_waits }
