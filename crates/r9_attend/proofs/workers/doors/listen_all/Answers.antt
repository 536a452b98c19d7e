use Rattle.std.proofs.Common.{◌∙◌, true, false, refl, sym, arith, get_or}
use Rattle.std.specs.Prelude.{is_err}
use Rattle.r9_outside.specs.outside.Count.{Rose}
use Rattle.r9_attend.specs.attend.Calls.{told_ends}
use Rattle.r9_attend.specs.workers.Shifts.{told_doors}
use Rattle.r9_attend.proofs.workers.Listening.{none_listened, one_listened, drop_later, drop_more, rose_at, told_at, one_more_told, fewer_told, at_error}
use Rattle.r9_attend.proofs.workers.doors.listen_all.Goals as goal

pub loop-worker-init : goal.loop-worker-init
loop-worker-init g c = record { each = none_listened _ c.args.doors.now; rest = refl; asked = λ i d below. absurd (omega arith) }

pub loop-worker-preserved : goal.loop-worker-preserved
loop-worker-preserved g c =
    let l = c.loop-worker in
    let e = c.listen.ensures in
    let small = c.requires in
    let more = l.auto.doors in
    let test = c.loop-worker-test.true in
    record {
      each = one_listened (told_doors g.D.Door.ended g.D.Door.over g.D.Door.faults (told_ends g.D.In.Source.left g.D.In.Source.faults g.D.Out.Sink.held g.D.Out.Sink.unflushed g.D.Out.Sink.faults)) c.args.doors.now l.doors l.worker c.index-doors-worker.result c.listen.new.self l.invariant.each (omega arith) (record { ended = e.ended.1; over = e.coming.1; counted = e.counted });
      rest = drop_later l.doors l.worker c.listen.new.self ∙ drop_more l.doors c.args.doors.now l.worker _ (omega arith) l.invariant.rest;
      asked = one_more_told g.D.Door.fails_next c.args.doors.now l.worker l.invariant.asked
          (λ d. told_at g.D.Door.fails_next c.args.doors.now l.doors l.worker l.worker c.index-doors-worker.result d (is_err c.listen.result) false refl (omega arith) l.invariant.rest (sym c.is_err.ensures.value ∙ c.if-is_err.false) e.told);
    }

pub returns-then-is_err : goal.returns-then-is_err
returns-then-is_err g c =
    let l = c.loop-worker in
    let e = c.listen.ensures in
    let small = c.requires in
    let more = l.auto.doors in
    let test = c.loop-worker-test.true in
    record {
      each = one_listened (told_doors g.D.Door.ended g.D.Door.over g.D.Door.faults (told_ends g.D.In.Source.left g.D.In.Source.faults g.D.Out.Sink.held g.D.Out.Sink.unflushed g.D.Out.Sink.faults)) c.args.doors.now l.doors l.worker c.index-doors-worker.result c.listen.new.self l.invariant.each (omega arith) (record { ended = e.ended.1; over = e.coming.1; counted = e.counted });
      ok = tt;
      failed = (
        omega arith,
        omega arith,
        drop_later l.doors l.worker c.listen.new.self ∙ drop_more l.doors c.args.doors.now l.worker _ (omega arith) l.invariant.rest,
        λ d. rose_at g.D.Door.faults c.args.doors.now l.doors l.worker _ c.index-doors-worker.result c.listen.new.self d (omega arith) (omega arith) l.invariant.rest
            (at_error c.listen.result (Rose (g.D.Door.faults (get_or l.doors l.worker c.index-doors-worker.result)) (g.D.Door.faults c.listen.new.self)) (sym c.is_err.ensures.value ∙ c.if-is_err.true) e.failed),
      );
      asked = tt;
      told = (
        fewer_told g.D.Door.fails_next c.args.doors.now l.worker _ (omega arith) l.invariant.asked,
        λ d. told_at g.D.Door.fails_next c.args.doors.now l.doors l.worker _ c.index-doors-worker.result d (is_err c.listen.result) true (omega arith) (omega arith) l.invariant.rest (sym c.is_err.ensures.value ∙ c.if-is_err.true) e.told,
      );
    }

pub returns : goal.returns
returns g c = record { each = c.loop-worker.invariant.each; ok = drop_more c.loop-worker.doors c.args.doors.now c.loop-worker.worker _ c.loop-worker.auto.worker-end c.loop-worker.invariant.rest; failed = tt; asked = fewer_told g.D.Door.fails_next c.args.doors.now c.loop-worker.worker _ c.loop-worker-test.false c.loop-worker.invariant.asked; told = tt }
