use Rattle.model_served.proofs.served.Kept.{live_there}
use Rattle.model_served.proofs.served.live_sessions_are_there.Goals as goal

pub returns : goal.returns
returns c = live_there
