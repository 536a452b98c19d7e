use Rattle.model_files.proofs.wire.Laws.{t_whole, r_whole, stat_whole}
use Rattle.model_files.proofs.wire.no_spelling_goes_on.Goals as goal

pub returns-clause-t : goal.returns-clause-t
returns-clause-t c = t_whole

pub returns-clause-r : goal.returns-clause-r
returns-clause-r c = r_whole

pub returns-clause-stat : goal.returns-clause-stat
returns-clause-stat c = stat_whole
