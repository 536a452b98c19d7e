use Rattle.r9_wmgr.specs.wmgr.Acts.{act_of}
use Rattle.r9_wmgr.proofs.wmgr.Results.{sound_after, turn_after}
use Rattle.r9_wmgr.proofs.wmgr.manager.Manager.step.Goals as goal

pub returns-clause-sound : goal.returns-clause-sound
returns-clause-sound c = sound_after c.args.self.now c.carry_out.new.self (act_of c.args.act) c.carry_out.result c.carry_out.ensures.done c.carry_out.ensures.kept

pub returns-clause-in_turn : goal.returns-clause-in_turn
returns-clause-in_turn c = turn_after c.args.self.now c.carry_out.new.self (act_of c.args.act) c.carry_out.result c.carry_out.ensures.done
