use Rattle.std.proofs.Common.{ℕ, List, get_or, subst, ◌∙◌, arith}
use Rattle.r9_outside.specs.outside.Sink.{Appends, AppendsPart}
use Rattle.r9_attend.specs.declared.attend.ends.ReadEnd.TheVariants as reader
use Rattle.r9_attend.specs.declared.attend.ends.WriteEnd.TheVariants as writer
use Rattle.r9_attend.specs.workers.Lines.{lines_of}
use Rattle.r9_attend.specs.declared.workers.lines.Unplain.{Unplain}
use Rattle.r9_service.proofs.service.Lines.{none_put, part_put, next_put}
use Rattle.r9_service.proofs.service.telling.put_lines.Goals as goal

abbrev no_session : Unplain
no_session = record { session = 0; reader = reader.Ended; writer = writer.Done }

pub returns-in_default-clause-part : goal.returns-in_default-clause-part
returns-in_default-clause-part g c =
    let held = g.E.Sink.held c.loop-ends.err in
    part_put (g.E.Sink.held c.args.err.now) held held c.args.sessions.now c.loop-ends.ends-index no_session c.loop-ends-test.true c.loop-ends.invariant.put
    (none_put held (lines_of (get_or c.args.sessions.now c.loop-ends.ends-index no_session)))

pub returns-in_err-put_all-clause-part : goal.returns-in_err-put_all-clause-part
returns-in_err-put_all-clause-part g c =
    let held = g.E.Sink.held c.loop-ends.err in
    let new = g.E.Sink.held c.put_all.new.out in
    part_put (g.E.Sink.held c.args.err.now) held new c.args.sessions.now c.loop-ends.ends-index no_session c.loop-ends-test.true c.loop-ends.invariant.put
    (subst (λ (t : List ℕ). AppendsPart held t new) (c.as_slice.ensures ∙ c.in-Ok.ensures) c.in_err-put_all.ensures.part)

pub loop-ends-preserved : goal.loop-ends-preserved
loop-ends-preserved g c =
    let held = g.E.Sink.held c.loop-ends.err in
    let new = g.E.Sink.held c.put_all.new.out in
    record {
      put = next_put (g.E.Sink.held c.args.err.now) held new c.args.sessions.now c.loop-ends.ends-index no_session c.loop-ends-test.true c.loop-ends.invariant.put
          (subst (λ (t : List ℕ). Appends held t new) (c.as_slice.ensures ∙ c.in-Ok.ensures) c.in_ok-put_all.ensures.ok);
      counted = omega (arith, c.loop-ends.invariant.counted, c.put_all.ensures.counted);
    }
