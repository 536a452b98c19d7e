use Rattle.model_world.proofs.Closed.{history_emptied}
use Rattle.model_world.proofs.closed_sessions_have_nothing.Goals as goal

pub returns : goal.returns
returns c = history_emptied
