use Rattle.model_files.proofs.console.Keeping.{reads}
use Rattle.model_files.proofs.console.reads_take_the_front.Goals as goal

pub returns : goal.returns
returns c = reads
