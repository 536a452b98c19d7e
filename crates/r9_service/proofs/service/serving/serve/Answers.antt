use Rattle.r9_attend.specs.attend.Calls.{told_ends}
use Rattle.r9_attend.specs.workers.Shifts.{told_doors}
use Rattle.r9_service.specs.service.Serving.{side}
use Rattle.r9_service.proofs.service.Whole.{not_started}
use denote.Param.Send.{sendable}
use Rattle.r9_service.proofs.service.Sending.{hall_send}
use Rattle.r9_service.proofs.service.serving.serve.Goals as goal

pub returns-in-Err : goal.returns-in-Err
returns-in-Err g c =
    let doors = told_doors g.D.Door.ended g.D.Door.over g.D.Door.faults (told_ends g.D.In.Source.left g.D.In.Source.faults g.D.Out.Sink.held g.D.Out.Sink.unflushed g.D.Out.Sink.faults) in
    let service = c.args.service.now in
    let out = c.args.out.now in
    let err = c.args.err.now in
    not_started doors service.opening service.sessions service.workers c.args.doors.now (side (g.O.Sink.held out) (g.O.Sink.unflushed out) (g.O.Sink.faults out)) (side (g.E.Sink.held err) (g.E.Sink.unflushed err) (g.E.Sink.faults err))

-- what the hall promises at its start, and what serving over it does, as they are
pub serve_hall-requires-clause-stands : goal.serve_hall-requires-clause-stands
serve_hall-requires-clause-stands g c κs within = c.in-Ok.ensures.stands

pub serve_hall-requires-clause-first : goal.serve_hall-requires-clause-first
serve_hall-requires-clause-first g c κs within = c.in-Ok.ensures.first

pub serve_hall-requires-clause-opening : goal.serve_hall-requires-clause-opening
serve_hall-requires-clause-opening g c κs within = c.in-Ok.ensures.opening

pub returns-in-Ok : goal.returns-in-Ok
returns-in-Ok g c = c.serve_hall.ensures

-- the hall may go to another thread
pub serve_hall-requires-send-H : goal.serve_hall-requires-send-H
serve_hall-requires-send-H g c κs within = search (sendable, hall_send) depth 12
