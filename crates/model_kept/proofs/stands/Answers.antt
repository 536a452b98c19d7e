use Rattle.model_kept.proofs.Once.{places-forest}
use Rattle.model_kept.proofs.Worlds.{standing-forest}
use Rattle.model_kept.proofs.stands.Goals as goal

pub returns-clause-standing : goal.returns-clause-standing
returns-clause-standing c = λ world ok. standing-forest world ok

pub returns-clause-places : goal.returns-clause-places
returns-clause-places c = λ world ok. places-forest world ok
