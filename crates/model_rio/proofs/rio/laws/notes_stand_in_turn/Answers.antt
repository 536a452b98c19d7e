use Rattle.model_rio.proofs.rio.Turns.{acts_turn}
use Rattle.model_rio.proofs.rio.laws.notes_stand_in_turn.Goals as goal

pub returns : goal.returns
returns c = acts_turn
