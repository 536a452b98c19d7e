use Rattle.model_served.proofs.served.Laws.{is_server}
use Rattle.model_served.proofs.served.sessions_see_a_server.Goals as goal

pub returns : goal.returns
returns c = is_server
