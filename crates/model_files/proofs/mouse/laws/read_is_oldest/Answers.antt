use Rattle.model_files.proofs.mouse.QueueLaws.{oldest}
use Rattle.model_files.proofs.mouse.laws.read_is_oldest.Goals as goal

pub returns : goal.returns
returns c = oldest
