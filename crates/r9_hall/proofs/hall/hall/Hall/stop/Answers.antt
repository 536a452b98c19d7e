use Rattle.std.proofs.Common.{refl}
use Rattle.r9_hall.proofs.hall.Acting.{stop_entered}
use Rattle.r9_hall.proofs.hall.hall.Hall.stop.Goals as goal

pub returns-clause-entered : goal.returns-clause-entered
returns-clause-entered g c = stop_entered c.args.self.now c.event.new.self c.event.result (c.event.ensures.stop refl) c.event.ensures.made
