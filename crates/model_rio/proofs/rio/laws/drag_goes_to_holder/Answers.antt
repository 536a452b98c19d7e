use Rattle.model_rio.proofs.rio.RioLaws.{held}
use Rattle.model_rio.proofs.rio.laws.drag_goes_to_holder.Goals as goal

pub returns : goal.returns
returns c = held
