use Rattle.law_isolation.proofs.alone_law.Law.{all_isolated}
use Rattle.law_isolation.proofs.alone_law.sessions_alone_are_isolated.Goals as goal

pub returns : goal.returns
returns c = all_isolated
