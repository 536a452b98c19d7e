use Rattle.model_world.proofs.Waking.{late_spares}
use Rattle.model_world.proofs.late_answers_wake_nobody.Goals as goal

pub returns : goal.returns
returns c = late_spares
