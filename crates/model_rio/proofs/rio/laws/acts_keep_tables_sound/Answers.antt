use Rattle.model_rio.proofs.rio.Soundness.{step_sound}
use Rattle.model_rio.proofs.rio.laws.acts_keep_tables_sound.Goals as goal

pub returns : goal.returns
returns c = step_sound
