use Rattle.model_world.specs.Whole.{desktop_for}
use Rattle.model_world.proofs.Flushed.{late-waits}
use Rattle.model_world.proofs.late_replies_have_waiting_tags.Goals as goal

pub returns : goal.returns
returns c = λ k session desktop after reply. late-waits (desktop_for k) session desktop after reply
