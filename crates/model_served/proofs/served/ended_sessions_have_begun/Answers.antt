use Rattle.model_served.proofs.served.Rolls.{ended_begun}
use Rattle.model_served.proofs.served.ended_sessions_have_begun.Goals as goal

pub returns : goal.returns
returns c = ended_begun
