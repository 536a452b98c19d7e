use Rattle.model_rio.proofs.window.PaneLaws.{goes_on}
use Rattle.model_rio.proofs.window.pane_goes_on.Goals as goal

pub returns : goal.returns
returns c = goes_on
