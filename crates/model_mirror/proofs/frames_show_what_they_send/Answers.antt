use Rattle.model_mirror.proofs.Same.{changed, sized}
use Rattle.model_mirror.proofs.frames_show_what_they_send.Goals as goal

pub returns : goal.returns
returns c = record { sized = sized; changed = changed }
