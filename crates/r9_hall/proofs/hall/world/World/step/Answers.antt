use Rattle.r9_hall.specs.hall.WorldView.{display_in}
use Rattle.r9_hall.proofs.hall.Worlds.{marks_counted}
use Rattle.r9_hall.proofs.hall.world.World.step.Goals as goal

pub returns-clause-marks : goal.returns-clause-marks
returns-clause-marks g c =
    marks_counted (display_in c.args.self.now) (display_in c.make.new.self) c.in_ok-stepped.stepped.pixels c.args.pixels.now c.add.new.self c.add.ensures c.in_ok-stepped.ensures.marks
