use Rattle.model_files.proofs.wire.Laws.{t_takes, t_again}
use Rattle.model_files.proofs.wire.reads_what_is_spelled.Goals as goal

pub returns-clause-read : goal.returns-clause-read
returns-clause-read c = t_takes

pub returns-clause-spelled : goal.returns-clause-spelled
returns-clause-spelled c = t_again
