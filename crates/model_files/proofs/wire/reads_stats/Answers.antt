use Rattle.model_files.proofs.wire.Laws.{stat_takes, stat_front}
use Rattle.model_files.proofs.wire.reads_stats.Goals as goal

pub returns-clause-read : goal.returns-clause-read
returns-clause-read c = stat_takes

pub returns-clause-spelled : goal.returns-clause-spelled
returns-clause-spelled c = stat_front
