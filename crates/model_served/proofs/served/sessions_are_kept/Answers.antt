use Rattle.model_served.proofs.served.Kept.{kept_closed, kept_size}
use Rattle.model_served.proofs.served.sessions_are_kept.Goals as goal

pub returns-clause-closed : goal.returns-clause-closed
returns-clause-closed c = kept_closed

pub returns-clause-size : goal.returns-clause-size
returns-clause-size c = kept_size
