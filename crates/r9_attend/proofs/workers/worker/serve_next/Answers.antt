use Rattle.std.proofs.Common.{◌≡◌, ◌≤◌, [], refl, sym, subst, rules}
use Rattle.std.specs.Prelude.{Some, IfSome}
use Rattle.r9_outside.specs.outside.Door.{Accepted, OneMore}
use Rattle.r9_attend.specs.workers.Shifts.{ended_by, told_doors}
use Rattle.r9_attend.specs.attend.Calls.{Call, told_ends}
use Rattle.r9_attend.proofs.workers.Calling.{of_none, of_session, done_as}
use Rattle.r9_attend.proofs.workers.worker.serve_next.Goals as goal

pub returns : goal.returns
returns g c =
    let e = c.attend-ends.ensures in
    let door = g.D.Door in
    let tells = told_ends g.D.In.Source.left g.D.In.Source.faults g.D.Out.Sink.held g.D.Out.Sink.unflushed g.D.Out.Sink.faults in
    let k : Call g.row.D-In.Denot g.row.D-Out.Denot = record {
      attended = c.attend-ends.result;
      reader_old = c.args.reader.now;
      reader = c.attend-ends.new.reader;
      writer_old = c.args.writer.now;
      writer = c.attend-ends.new.writer;
      input_old = c.in-Some.input;
      input = c.attend-ends.new.input;
      output_old = c.in-Some.output;
      output = c.attend-ends.new.output;
    } in
    let accepted : Accepted = record { had = g.D.In.Source.left c.in-Some.input; read_faults = g.D.In.Source.faults c.in-Some.input; write_faults = g.D.Out.Sink.faults c.in-Some.output } in
    let inside : door.inside c.accept.new.self ≡ Some accepted = search rules in
    let fresh : IfSome (tells.held c.in-Some.output) (λ bytes. bytes ≡ []) = search rules in
    let done = done_as (door.ended c.accept.new.self) (door.ended c.done.new.self) c.attend-ends.result.session c.attend-ends.new.input c.attend-ends.new.output (door.inside c.accept.new.self) accepted inside c.done.ensures.ended in
    let before : door.ended c.accept.new.self ≡ door.ended c.args.door.now = c.accept.ensures.ended in
    record {
      call = k;
      is = refl;
      attends = record {
        reader_goes = e.passes.0;
        writer_goes = e.passes.1;
        none = of_none tells g.T.Serves.server k k.attended.session e.not_begun e.none_made;
        some = of_session tells g.T.Serves.server k k.attended.session e.began e.made e.ended e.read e.written e.read_exact e.write_exact e.told e.closed e.complete;
        read_failed = e.read_failed;
        write_failed = e.write_failed;
        read_steady = e.steady;
        read_counted = e.counted.0;
        write_counted = e.counted.1;
        flushed = e.flushed;
      };
      fresh = fresh;
      reader_old = refl;
      reader = refl;
      writer_old = refl;
      writer = refl;
      ended = subst (λ list. OneMore list (ended_by (told_doors door.ended door.over door.faults tells) k) (door.ended c.done.new.self)) before done;
      counted = subst (λ n. door.faults c.args.door.now ≤ n) (sym c.done.ensures.faults) c.accept.ensures.counted;
    }
