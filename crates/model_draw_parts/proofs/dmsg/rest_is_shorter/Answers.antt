use Rattle.model_draw_parts.proofs.dmsg.Rest.{rest-shorter}
use Rattle.model_draw_parts.proofs.dmsg.rest_is_shorter.Goals as goal

pub returns : goal.returns
returns c = rest-shorter
