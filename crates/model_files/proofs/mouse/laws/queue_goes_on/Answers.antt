use Rattle.model_files.proofs.mouse.QueueLaws.{goes_on}
use Rattle.model_files.proofs.mouse.laws.queue_goes_on.Goals as goal

pub returns : goal.returns
returns c = goes_on
