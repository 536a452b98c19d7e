use Rattle.std.proofs.Common.{true}
use Rattle.r9_hall.specs.hall.WorldView.{world_in}
use Rattle.model_mirror.specs.Shown.{mirrored}
use Rattle.r9_serve.proofs.mirroring.Entries.{all_sent, cleared_unmarked}
use Rattle.r9_serve.proofs.mirroring.Pictures.{lawful}
use Rattle.r9_serve.proofs.mirroring.mirror.first_frame.Goals as goal

pub returns-clause-unmarked : goal.returns-clause-unmarked
returns-clause-unmarked c = cleared_unmarked _ _ c.clear_marks.ensures.cleared

pub returns-clause-frame : goal.returns-clause-frame
returns-clause-frame c =
    let w = world_in c.args.world.now in all_sent c.args.chan 0 true (mirrored w) _ (lawful c.args.chan w c.requires.display) c.in_ok-text.ensures
