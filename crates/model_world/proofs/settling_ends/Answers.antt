use Rattle.std.proofs.Common.{arith}
use Rattle.model_world.specs.Replay.{waiting_in}
use Rattle.model_world.proofs.Standing.{settled_ends}
use Rattle.model_world.proofs.settling_ends.Goals as goal

pub returns : goal.returns
returns c = λ world order. settled_ends (waiting_in world) world order (omega arith)
