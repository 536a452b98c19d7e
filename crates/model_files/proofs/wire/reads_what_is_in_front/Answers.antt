use Rattle.model_files.proofs.wire.Laws.{t_front, r_front}
use Rattle.model_files.proofs.wire.reads_what_is_in_front.Goals as goal

pub returns-clause-t : goal.returns-clause-t
returns-clause-t c = t_front

pub returns-clause-r : goal.returns-clause-r
returns-clause-r c = r_front
