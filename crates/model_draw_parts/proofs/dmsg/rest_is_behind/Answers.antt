use Rattle.model_draw_parts.proofs.dmsg.Rest.{first_message-rest}
use Rattle.model_draw_parts.proofs.dmsg.rest_is_behind.Goals as goal

pub returns : goal.returns
returns c = λ bytes rest m e. (first_message-rest bytes rest m e).is
