use Rattle.model_draw_parts.proofs.images.Complete.{free_id-complete}
use Rattle.model_draw_parts.proofs.images.Freed.{free_id-frees, free_id-others}
use Rattle.model_draw_parts.proofs.images.Order.{free_id-order, free_id-rest}
use Rattle.model_draw_parts.proofs.images.free_id_frees.Goals as goal

pub returns-clause-freed : goal.returns-clause-freed
returns-clause-freed c = free_id-frees

pub returns-clause-others : goal.returns-clause-others
returns-clause-others c = free_id-others

pub returns-clause-order : goal.returns-clause-order
returns-clause-order c = free_id-order

pub returns-clause-rest : goal.returns-clause-rest
returns-clause-rest c = free_id-rest

pub returns-clause-complete : goal.returns-clause-complete
returns-clause-complete c = λ book client id freed finds e. (free_id-complete book client id freed finds e).0

pub returns-clause-finds : goal.returns-clause-finds
returns-clause-finds c = λ book client id freed finds e. (free_id-complete book client id freed finds e).1
