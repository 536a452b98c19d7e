use Rattle.model_rio.proofs.rio.Soundness.{opened_sound}
use Rattle.model_rio.proofs.rio.laws.opening_is_sound.Goals as goal

pub returns : goal.returns
returns c = opened_sound
