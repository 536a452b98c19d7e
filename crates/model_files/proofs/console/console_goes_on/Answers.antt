use Rattle.model_files.proofs.console.Keeping.{goes_on}
use Rattle.model_files.proofs.console.console_goes_on.Goals as goal

pub returns : goal.returns
returns c = goes_on
