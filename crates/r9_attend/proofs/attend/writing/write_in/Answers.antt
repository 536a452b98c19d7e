use Rattle.std.proofs.Common.{subst, inl, inr}
use Rattle.r9_attend.specs.attend.Steps.{HasWritten}
use Rattle.r9_attend.proofs.attend.TheEnd.{written_so}
use Rattle.r9_attend.proofs.attend.TheRest.{written_given_up}
use Rattle.r9_attend.proofs.attend.writing.write_in.Goals as goal

pub returns-in-WriteFault : goal.returns-in-WriteFault
returns-in-WriteFault g c = let e = c.write_on.ensures in
    subst (λ end. HasWritten g.O.Sink.held g.O.Sink.unflushed g.O.Sink.faults g.T.Serves.server c.args.room.now.session end c.args.pass.now c.give_up.new.pass c.args.output.now c.write_on.new.output) c.in-WriteFault.is
    (written_given_up g.T.Serves.server c.args.room.now.session c.args.pass.now c.write_on.new.pass c.give_up.new.pass c.give_up.ensures e.goes_on
    g.O.Sink.held g.O.Sink.unflushed g.O.Sink.faults c.write_on.result c.args.output.now c.write_on.new.output (inl c.in-WriteFault.is) e.made e.failed e.counted e.written)

pub returns-in-Memory : goal.returns-in-Memory
returns-in-Memory g c = let e = c.write_on.ensures in
    subst (λ end. HasWritten g.O.Sink.held g.O.Sink.unflushed g.O.Sink.faults g.T.Serves.server c.args.room.now.session end c.args.pass.now c.give_up-in-Memory.new.pass c.args.output.now c.write_on.new.output) c.in-Memory.is
    (written_given_up g.T.Serves.server c.args.room.now.session c.args.pass.now c.write_on.new.pass c.give_up-in-Memory.new.pass c.give_up-in-Memory.ensures e.goes_on
    g.O.Sink.held g.O.Sink.unflushed g.O.Sink.faults c.write_on.result c.args.output.now c.write_on.new.output (inr c.in-Memory.is) e.made e.failed e.counted e.written)

pub returns-in_default : goal.returns-in_default
returns-in_default g c = let e = c.write_on.ensures in
    written_so g.T.Serves.server c.args.room.now.session c.args.pass.now c.write_on.new.pass g.O.Sink.held g.O.Sink.unflushed g.O.Sink.faults c.write_on.result c.args.output.now c.write_on.new.output
    e.goes_on e.made e.spent e.failed e.counted e.flushed e.written
