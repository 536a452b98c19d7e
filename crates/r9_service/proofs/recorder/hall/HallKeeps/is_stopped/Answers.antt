use Rattle.r9_hall.proofs.hall.Stored.{stopped}
use Rattle.r9_service.proofs.recorder.hall.HallKeeps.is_stopped.Goals as goal

pub returns : goal.returns
returns c = stopped c.args.self.now c.can.result c.can.ensures
