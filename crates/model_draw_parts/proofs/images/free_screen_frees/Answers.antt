use Rattle.model_draw_parts.proofs.images.Complete.{free_screen-complete}
use Rattle.model_draw_parts.proofs.images.Freed.{free_screen-frees, free_screen-others}
use Rattle.model_draw_parts.proofs.images.Order.{free_screen-order, free_screen-rest}
use Rattle.model_draw_parts.proofs.images.free_screen_frees.Goals as goal

pub returns-clause-freed : goal.returns-clause-freed
returns-clause-freed c = free_screen-frees

pub returns-clause-others : goal.returns-clause-others
returns-clause-others c = free_screen-others

pub returns-clause-order : goal.returns-clause-order
returns-clause-order c = free_screen-order

pub returns-clause-rest : goal.returns-clause-rest
returns-clause-rest c = free_screen-rest

pub returns-clause-complete : goal.returns-clause-complete
returns-clause-complete c = λ book client id freed finds e. (free_screen-complete book client id freed finds e).0

pub returns-clause-finds : goal.returns-clause-finds
returns-clause-finds c = λ book client id freed finds e. (free_screen-complete book client id freed finds e).1
