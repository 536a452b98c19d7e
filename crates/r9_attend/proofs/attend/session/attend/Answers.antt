use Rattle.model_history.specs.event.Journal.{events_of}
use Rattle.r9_attend.proofs.attend.TheSession.{begun_ready, both_go, began, made_theirs, theirs_read, theirs_written, theirs_closed, none_made}
use Rattle.r9_attend.proofs.attend.Complete.{plain_reader, plain_writer, plain_both}
use Rattle.r9_attend.proofs.attend.Exact.{exact_reader, exact_writer}
use Rattle.r9_attend.proofs.attend.session.attend.Goals as goal

pub returns : goal.returns
returns g c =
    let s = g.T.Serves.server in
    let n = c.in-Ok.session in
    let t = c.in-Ok.ensures.begun in
    let b = c.begin.ensures.goes_on in
    let hr = c.both_in-read.ensures.reader in
    let hw = c.both_in-read.ensures.writer in
    let r0 = c.args.reader.now in
    let r1 = c.begin.new.pass in
    let r2 = c.both_in-read.new.reader in
    let w0 = c.args.writer.now in
    let w1 = c.both_in-read.new.writer in
    let left = g.S.Source.left in
    let faults = g.S.Source.faults in
    let held = g.O.Sink.held in
    let unflushed = g.O.Sink.unflushed in
    let faults' = g.O.Sink.faults in
    let i0 = c.args.input.now in
    let i1 = c.both_in-read.new.input in
    let o0 = c.args.output.now in
    let o1 = c.both_in-read.new.output in
    let e0 = c.both_in-read.result.0 in
    let e1 = c.both_in-read.result.1 in
    let theirs = theirs_read s n r0 r1 r2 w0 w1 t b left faults held unflushed faults' e0 e1 i0 i1 o0 o1 hr hw in
    let closed = theirs_closed s n r0 r1 r2 w0 w1 t b left faults held unflushed faults' e0 e1 i0 i1 o0 o1 hr hw in
    record {
      passes = both_go s n r0 r1 r2 w0 w1 t b left faults held unflushed faults' e0 e1 i0 i1 o0 o1 hr hw;
      not_begun = tt;
      none_made = tt;
      began = began s n r0 r1 r2 w0 w1 t b left faults held unflushed faults' e0 e1 i0 i1 o0 o1 hr hw;
      made = made_theirs s n r0 r1 r2 w0 w1 t b left faults held unflushed faults' e0 e1 i0 i1 o0 o1 hr hw;
      ended = hr.ended;
      read = theirs;
      read_exact = λ history own. exact_reader s n (left i1) theirs.0 (events_of history) r2 (left i0) e0 (theirs.3 history own) theirs.1 theirs.2 hr.told;
      written = theirs_written s n r0 r1 r2 w0 w1 t b left faults held unflushed faults' e0 e1 i0 i1 o0 o1 hr hw;
      write_exact = exact_writer e1 w1 hw.spent;
      told = (hr.told, hw.spent);
      closed = closed;
      complete = λ read_sure write_sure history own plain. plain_both e0 e1
          (plain_reader s n (left i0) (left i1) theirs.0 (events_of history) r2 plain e0 (theirs.3 history own) theirs.1 theirs.2 hr.told (λ e. read_sure (hr.failed e)))
          (plain_writer e1 w1 hw.spent (λ e. write_sure (hw.failed e)))
          (λ e. (closed e history own).1)
          (λ e. write_sure (hw.failed e));
      read_failed = hr.failed;
      write_failed = hw.failed;
      counted = (hr.counted, hw.counted);
      steady = hr.steady;
      flushed = hw.flushed;
    }

pub returns-in-Err-clause-none_made : goal.returns-in-Err-clause-none_made
returns-in-Err-clause-none_made g c = none_made g.T.Serves.server c.args.reader.now c.begin.new.pass c.in-Err.reader c.in-Err.writer c.in-Err.ensures.begun

pub both_in-read-requires-clause-reader : goal.both_in-read-requires-clause-reader
both_in-read-requires-clause-reader g c κs within =
    begun_ready g.T.Serves.server c.in-Ok.session c.args.reader.now c.begin.new.pass c.begin.new.pass c.args.writer.now c.args.writer.now c.in-Ok.ensures.begun c.begin.ensures.goes_on c.args.shared.now.id c.requires.0
