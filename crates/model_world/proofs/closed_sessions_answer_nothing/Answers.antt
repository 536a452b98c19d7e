use Rattle.model_world.specs.Whole.{desktop_for}
use Rattle.model_world.proofs.Closed.{closed-ignores}
use Rattle.model_world.proofs.closed_sessions_answer_nothing.Goals as goal

pub returns : goal.returns
returns c = λ k session desktop bytes mark. closed-ignores (desktop_for k) session desktop bytes mark
