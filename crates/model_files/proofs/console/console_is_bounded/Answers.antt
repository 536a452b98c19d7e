use Rattle.model_files.proofs.console.Bounds.{few_wait}
use Rattle.model_files.proofs.console.console_is_bounded.Goals as goal

pub returns : goal.returns
returns c = few_wait
