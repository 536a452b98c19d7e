use Rattle.model_rio.proofs.rio.Lives.{acts_tell}
use Rattle.model_rio.proofs.rio.laws.windows_come_and_go_with_notes.Goals as goal

pub returns : goal.returns
returns c = acts_tell
