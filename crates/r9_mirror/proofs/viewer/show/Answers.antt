use Rattle.r9_plane.specs.Pixels.{chan_of}
use Rattle.r9_mirror.proofs.Screens.{cell_shown, frame_shown}
use Rattle.r9_mirror.proofs.viewer.show.Goals as goal

pub returns-in-Frame-clause-shown : goal.returns-in-Frame-clause-shown
returns-in-Frame-clause-shown g c =
    let plane = c.args.plane.now in
    frame_shown (chan_of plane) plane c.begin.new.plane c.args.step c.in-Frame.blank c.in-Frame.is c.begin.ensures.shown

pub returns-in-Cell-clause-shown : goal.returns-in-Cell-clause-shown
returns-in-Cell-clause-shown g c =
    let plane = c.args.plane.now in
    cell_shown (chan_of plane) plane c.load.new.self c.args.step c.in-Cell.r c.in-Cell.rows c.in-Cell.is c.load.ensures.rect c.load.ensures.pixels
