use Rattle.model_world.proofs.Waking.{end_spares, message_spares}
use Rattle.model_world.proofs.only_stirred_sessions_wake.Goals as goal

pub returns : goal.returns
returns c = record { message = message_spares; end = end_spares }
