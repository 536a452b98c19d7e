use Rattle.std.proofs.Common.{◌≡◌, ◌∙◌, refl, sym, subst, ap, arith, inl, inr, true, false}
use Rattle.std.specs.Prelude.{is_some}
use Rattle.r9_attend.specs.attend.Calls.{told_ends}
use Rattle.r9_attend.specs.workers.Shifts.{told_doors}
use Rattle.r9_attend.specs.workers.Steps.{Lists}
use Rattle.r9_attend.specs.declared.workers.report.Report.{Report}
use Rattle.r9_attend.proofs.workers.OneWorker.{at_first, called_more, stays, finish, rose_later}
use Rattle.r9_attend.proofs.workers.worker.serve.Goals as goal

pub loop-init : goal.loop-init
loop-init g c = let r = c.new-report.ensures in at_first _ g.T.Serves.server c.args.door.now c.args.reader.now c.args.writer.now c.new-report.result r.fine.0 r.fine.1 r.fine.2 r.lists r.sessions

pub returns-then-not-is_whole : goal.returns-then-not-is_whole
returns-then-not-is_whole g c =
    let doors = told_doors g.D.Door.ended g.D.Door.over g.D.Door.faults (told_ends g.D.In.Source.left g.D.In.Source.faults g.D.Out.Sink.held g.D.Out.Sink.unflushed g.D.Out.Sink.faults) in
    let door = c.args.door.now in
    let reader = c.args.reader.now in
    let writer = c.args.writer.now in
    let r = c.new-report.ensures in
    let is = c.short.ensures in
    let so = at_first doors g.T.Serves.server door reader writer c.new-report.result r.fine.0 r.fine.1 r.fine.2 r.lists r.sessions in
    finish doors g.T.Serves.server c.args.share c.args.worker false true so.done _ _ c.short.result
    (stays doors g.T.Serves.server so.done _ door door reader reader writer writer c.new-report.result c.short.result so.working (record { reader = refl; writer = refl; ended = refl; counted = omega arith }) (ap (λ r. r.spent) is)
    (λ e. let wrong : true ≡ false = sym (ap (λ (r : Report). r.memory) is) ∙ e in absurd cc) (λ lines h. subst (λ r. Lists r lines) (sym is) h))
    (let k = so.counted in omega arith) (inr (inr (inr refl))) (λ e. absurd cc) (ap (λ r. r.door_fault) is ∙ so.unfailed) (λ e. let wrong : true ≡ false = sym (ap (λ (r : Report). r.memory) is) ∙ e in absurd cc)

pub serve_next-requires-after_bounds : goal.serve_next-requires-after_bounds
serve_next-requires-after_bounds g c κs within = (c.loop.invariant.working.reader.lock ∙ c.requires.0, c.loop.invariant.working.writer.lock ∙ c.requires.1)

pub returns-in-Ok-None : goal.returns-in-Ok-None
returns-in-Ok-None g c =
    let doors = told_doors g.D.Door.ended g.D.Door.over g.D.Door.faults (told_ends g.D.In.Source.left g.D.In.Source.faults g.D.Out.Sink.held g.D.Out.Sink.unflushed g.D.Out.Sink.faults) in
    let so = c.loop.invariant in
    let n = rw c.in-Ok-None.field-0-is at c.in-Ok-None.ensures in
    finish doors g.T.Serves.server c.args.share c.args.worker false false so.done _ _ c.loop.report
    (stays doors g.T.Serves.server so.done _ c.loop.door c.serve_next.new.door c.loop.reader c.serve_next.new.reader c.loop.writer c.serve_next.new.writer c.loop.report c.loop.report so.working n.0 refl (λ e. (e, refl)) (λ lines h. h))
    (let k = so.counted in omega arith) (inr (inl n.1)) (λ e. absurd cc) so.unfailed (λ _. refl)

pub returns-in-Err-Failed : goal.returns-in-Err-Failed
returns-in-Err-Failed g c =
    let doors = told_doors g.D.Door.ended g.D.Door.over g.D.Door.faults (told_ends g.D.In.Source.left g.D.In.Source.faults g.D.Out.Sink.held g.D.Out.Sink.unflushed g.D.Out.Sink.faults) in
    let so = c.loop.invariant in
    let n = rw c.in-Err-Failed.field-0-is at c.in-Err-Failed.ensures in
    let is = c.failed.ensures in
    finish doors g.T.Serves.server c.args.share c.args.worker true false so.done _ _ c.failed.result
    (stays doors g.T.Serves.server so.done _ c.loop.door c.serve_next.new.door c.loop.reader c.serve_next.new.reader c.loop.writer c.serve_next.new.writer c.loop.report c.failed.result so.working n.0 (ap (λ r. r.spent) is)
    (λ e. (sym (ap (λ r. r.memory) is) ∙ e, ap (λ r. is_some r.sessions) is)) (λ lines h. subst (λ r. Lists r lines) (sym is) h))
    (let k = so.counted in omega arith) (inr (inr (inl refl))) (λ _. rose_later (doors.faults c.args.door.now) (doors.faults c.loop.door) (doors.faults c.serve_next.new.door) so.working.counted n.1) (ap (λ r. r.door_fault) is) (λ _. refl)

pub returns-in-Err-Memory : goal.returns-in-Err-Memory
returns-in-Err-Memory g c =
    let doors = told_doors g.D.Door.ended g.D.Door.over g.D.Door.faults (told_ends g.D.In.Source.left g.D.In.Source.faults g.D.Out.Sink.held g.D.Out.Sink.unflushed g.D.Out.Sink.faults) in
    let so = c.loop.invariant in
    let n = rw c.in-Err-Memory.field-0-is at c.in-Err-Memory.ensures in
    let is = c.short-in-Err-Memory.ensures in
    finish doors g.T.Serves.server c.args.share c.args.worker false true so.done _ _ c.short-in-Err-Memory.result
    (stays doors g.T.Serves.server so.done _ c.loop.door c.serve_next.new.door c.loop.reader c.serve_next.new.reader c.loop.writer c.serve_next.new.writer c.loop.report c.short-in-Err-Memory.result so.working n (ap (λ r. r.spent) is)
    (λ e. let wrong : true ≡ false = sym (ap (λ (r : Report). r.memory) is) ∙ e in absurd cc) (λ lines h. subst (λ r. Lists r lines) (sym is) h))
    (let k = so.counted in omega arith) (inr (inr (inr refl))) (λ e. absurd cc) (ap (λ r. r.door_fault) is ∙ so.unfailed) (λ e. let wrong : true ≡ false = sym (ap (λ (r : Report). r.memory) is) ∙ e in absurd cc)

pub loop-preserved : goal.loop-preserved
loop-preserved g c =
    let doors = told_doors g.D.Door.ended g.D.Door.over g.D.Door.faults (told_ends g.D.In.Source.left g.D.In.Source.faults g.D.Out.Sink.held g.D.Out.Sink.unflushed g.D.Out.Sink.faults) in
    let n = rw c.in-Ok-Some.field-0-is at c.in-Ok-Some.ensures in
    let w = c.with-report.ensures in
    called_more doors g.T.Serves.server c.loop.counter _ c.loop.door c.serve_next.new.door c.loop.reader c.serve_next.new.reader c.loop.writer c.serve_next.new.writer c.loop.report c.with-report.result c.in-Ok-Some.ends c.loop.invariant n
    w.door_fault w.spent w.memory w.lists

pub returns : goal.returns
returns g c =
    let so = c.loop.invariant in
    finish _ g.T.Serves.server c.args.share c.args.worker false false so.done _ _ c.loop.report so.working (let k = so.counted in let e = c.loop.auto.counter-end in omega arith)
    (inl (let k = so.counted in let e = c.loop.auto.counter-end in let f = c.loop-test.false in omega arith)) (λ e. absurd cc) so.unfailed (λ _. refl)
