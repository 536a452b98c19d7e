use Rattle.model_alone.proofs.used.Turns.{seen_in_turn}
use Rattle.model_alone.proofs.used.uses_are_seen_in_turn.Goals as goal

pub returns : goal.returns
returns c = seen_in_turn
