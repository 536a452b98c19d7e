use Rattle.model_world.specs.Whole.{desktop_for}
use Rattle.model_world.proofs.Refused.{write-leaves}
use Rattle.model_world.proofs.write_leaves_session.Goals as goal

pub returns : goal.returns
returns c = λ k session desktop bytes mark tag fid offset written reply. write-leaves (desktop_for k) session desktop bytes mark tag fid offset written reply
