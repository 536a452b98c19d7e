use Rattle.model_files.proofs.wire.Laws.{r_takes, r_again}
use Rattle.model_files.proofs.wire.reads_replies.Goals as goal

pub returns-clause-read : goal.returns-clause-read
returns-clause-read c = r_takes

pub returns-clause-spelled : goal.returns-clause-spelled
returns-clause-spelled c = r_again
