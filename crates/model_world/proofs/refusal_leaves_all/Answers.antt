use Rattle.model_world.specs.Whole.{desktop_for}
use Rattle.model_world.proofs.Refused.{refusal-leaves}
use Rattle.model_world.proofs.refusal_leaves_all.Goals as goal

pub returns : goal.returns
returns c = λ k session desktop bytes mark reply. refusal-leaves (desktop_for k) session desktop bytes mark reply
