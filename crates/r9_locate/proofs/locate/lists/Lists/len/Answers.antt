use Rattle.r9_locate.specs.locate.Table.{made}
use Rattle.r9_locate.proofs.locate.lists.Lists.len.Goals as goal

pub returns-clause-value : goal.returns-clause-value
unfolding made
returns-clause-value c = c.len.ensures.value
