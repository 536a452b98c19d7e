use Rattle.model_rio.proofs.rio.RioLaws.{placed}
use Rattle.model_rio.proofs.rio.laws.replaced_windows_keep_their_places.Goals as goal

pub returns : goal.returns
returns c = placed
