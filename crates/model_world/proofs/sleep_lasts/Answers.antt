use Rattle.model_world.proofs.Windows.{sleeps_same, sleeps_then}
use Rattle.model_world.proofs.sleep_lasts.Goals as goal

pub returns : goal.returns
returns c = record { same = sleeps_same; further = sleeps_then }
