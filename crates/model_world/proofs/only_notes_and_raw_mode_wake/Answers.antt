use Rattle.model_world.proofs.Windows.{hear_quiet, step_sleeps}
use Rattle.model_world.proofs.only_notes_and_raw_mode_wake.Goals as goal

pub returns : goal.returns
returns c = record { heard = λ c desktop at window heard quiet. (hear_quiet c desktop at heard quiet).1 window; step = step_sleeps }
