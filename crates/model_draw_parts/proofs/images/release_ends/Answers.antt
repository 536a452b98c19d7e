use Rattle.model_draw_parts.proofs.images.Steps.{released-exactly}
use Rattle.model_draw_parts.proofs.images.release_ends.Goals as goal

pub returns : goal.returns
returns c = released-exactly
