use Rattle.model_world.specs.Whole.{desktop_for}
use Rattle.model_world.proofs.Quiet.{answer_tagged}
use Rattle.model_world.proofs.replies_have_tags_of_messages.Goals as goal

pub returns : goal.returns
returns c = λ k session desktop bytes mark. answer_tagged (desktop_for k) session desktop bytes mark
