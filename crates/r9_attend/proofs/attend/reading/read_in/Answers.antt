use Rattle.r9_event.specs.declared.event.event.Event.TheVariants.{Begin}
use Rattle.r9_attend.proofs.attend.Served.{events_has}
use Rattle.r9_attend.proofs.attend.TheEnd.{read_ended}
use Rattle.r9_attend.proofs.attend.reading.read_in.Goals as goal

pub returns : goal.returns
returns g c =
    let e = c.read_on-end.ensures in
    read_ended g.T.Serves.server c.args.room.now.session c.args.pass.now c.read_on-end.new.pass c.end_session.new.pass c.end_session.ensures.goes_on c.end_session.ensures.made
    g.S.Source.left g.S.Source.faults c.read_on-end.result c.args.input.now c.read_on-end.new.input c.in_default.not-Closed e.goes_on e.made e.told
    (c.end_session.ensures.ended (events_has (Begin c.args.room.now.session) e.goes_on.seen c.requires.begun)) e.failed e.counted e.steady e.read
