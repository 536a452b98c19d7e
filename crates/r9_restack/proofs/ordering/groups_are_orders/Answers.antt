use Rattle.model_kept.proofs.Once.{places-forest}
use Rattle.r9_restack.proofs.Raised.{reordering-lowered, reordering-raised}
use Rattle.r9_restack.proofs.ordering.groups_are_orders.Goals as goal

pub returns-clause-raised : goal.returns-clause-raised
returns-clause-raised c = λ world p group ok live. reordering-raised world ok (places-forest world ok) p group live

pub returns-clause-lowered : goal.returns-clause-lowered
returns-clause-lowered c = λ world p group ok live. reordering-lowered world ok (places-forest world ok) p group live
