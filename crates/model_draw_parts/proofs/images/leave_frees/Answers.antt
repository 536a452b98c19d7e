use Rattle.model_draw_parts.proofs.images.Complete.{leave-complete}
use Rattle.model_draw_parts.proofs.images.Freed.{leave-frees, leave-others}
use Rattle.model_draw_parts.proofs.images.Order.{leave-order, leave-rest}
use Rattle.model_draw_parts.proofs.images.leave_frees.Goals as goal

pub returns-clause-freed : goal.returns-clause-freed
returns-clause-freed c = leave-frees

pub returns-clause-others : goal.returns-clause-others
returns-clause-others c = leave-others

pub returns-clause-order : goal.returns-clause-order
returns-clause-order c = leave-order

pub returns-clause-rest : goal.returns-clause-rest
returns-clause-rest c = leave-rest

pub returns-clause-complete : goal.returns-clause-complete
returns-clause-complete c = λ book client finds. (leave-complete book client finds).0

pub returns-clause-finds : goal.returns-clause-finds
returns-clause-finds c = λ book client finds. (leave-complete book client finds).1
