use Rattle.std.proofs.Common.{refl, subst, arith, inr, inl, ℕ, List, Option, Some, Ok}
use Rattle.r9_outside.specs.outside.Sink.{Appends}
use Rattle.r9_attend.specs.attend.Steps.{IsLooked, IsPut}
use Rattle.r9_attend.proofs.attend.TheWriter.{writing_first, writing_waited, writing_nothing, writing_put, put_made, put_written, looked_made, looked_written, looked_spent, put_spent}
use Rattle.r9_attend.proofs.attend.writing.write_on.Goals as goal

pub loop-init : goal.loop-init
loop-init g c = record { writing = writing_first g.T.Serves.server g.T.Serves.lawful c.args.room.now.session c.args.pass.now (g.O.Sink.held c.args.output.now); flushed = inr refl; counted = omega arith }

pub returns-in-Some-put-clause-made : goal.returns-in-Some-put-clause-made
returns-in-Some-put-clause-made g c =
    put_made g.T.Serves.server g.T.Serves.lawful c.args.room.now.session c.args.pass.now c.loop.pass (g.O.Sink.held c.args.output.now) (g.O.Sink.held c.loop.output) c.loop.invariant.writing c.look.new.pass c.look.ensures.goes_on
    c.in-Ok-Some.bytes (subst (λ (o : Option (List ℕ)). IsLooked g.T.Serves.server c.args.room.now.session (Ok o) c.loop.pass c.look.new.pass) c.in-Ok-Some.field-0-is c.in-Ok-Some.ensures.looked)

pub returns-in-Some-put-clause-written : goal.returns-in-Some-put-clause-written
returns-in-Some-put-clause-written g c =
    put_written g.T.Serves.server g.T.Serves.lawful c.args.room.now.session c.args.pass.now c.loop.pass (g.O.Sink.held c.args.output.now) (g.O.Sink.held c.loop.output) c.loop.invariant.writing c.look.new.pass c.look.ensures.goes_on
    c.in-Ok-Some.bytes (subst (λ (o : Option (List ℕ)). IsLooked g.T.Serves.server c.args.room.now.session (Ok o) c.loop.pass c.look.new.pass) c.in-Ok-Some.field-0-is c.in-Ok-Some.ensures.looked)
    c.in-Some-put.end (g.O.Sink.held c.put.new.output) (g.O.Sink.unflushed c.put.new.output)
    (subst (λ (l : List ℕ). IsPut (g.O.Sink.held c.loop.output) l (g.O.Sink.held c.put.new.output) (g.O.Sink.unflushed c.put.new.output) (Some c.in-Some-put.end)) c.as_slice.ensures c.in-Some-put.ensures.put)

pub loop-preserved-in-Ok-Some : goal.loop-preserved-in-Ok-Some
loop-preserved-in-Ok-Some g c = record {
  writing = writing_put g.T.Serves.server g.T.Serves.lawful c.args.room.now.session c.args.pass.now c.loop.pass (g.O.Sink.held c.args.output.now) (g.O.Sink.held c.loop.output) c.loop.invariant.writing c.look.new.pass c.look.ensures.goes_on
      c.in-Ok-Some.bytes (subst (λ (o : Option (List ℕ)). IsLooked g.T.Serves.server c.args.room.now.session (Ok o) c.loop.pass c.look.new.pass) c.in-Ok-Some.field-0-is c.in-Ok-Some.ensures.looked)
      (g.O.Sink.held c.put.new.output) (subst (λ (l : List ℕ). Appends (g.O.Sink.held c.loop.output) l (g.O.Sink.held c.put.new.output)) c.as_slice.ensures c.in-None-put.ensures.put.0);
  flushed = inl c.in-None-put.ensures.put.1;
  counted = let a = c.loop.invariant.counted in let b = c.put.ensures.counted in omega arith;
}

pub loop-preserved : goal.loop-preserved
loop-preserved g c =
    let t = subst (λ (o : Option (List ℕ)). IsLooked g.T.Serves.server c.args.room.now.session (Ok o) c.loop.pass c.look.new.pass) c.in-Ok-None.field-0-is c.in-Ok-None.ensures.looked in
    record {
      writing = writing_waited g.T.Serves.server g.T.Serves.lawful c.args.room.now.session c.args.pass.now c.look.new.pass (g.O.Sink.held c.args.output.now) (g.O.Sink.held c.loop.output)
          (writing_nothing g.T.Serves.server g.T.Serves.lawful c.args.room.now.session c.args.pass.now c.loop.pass (g.O.Sink.held c.args.output.now) (g.O.Sink.held c.loop.output) c.loop.invariant.writing c.look.new.pass c.look.ensures.goes_on t)
          c.wait.new.pass c.wait.ensures.pass c.wait.ensures.least;
      flushed = c.loop.invariant.flushed;
      counted = c.loop.invariant.counted;
    }

pub returns-in-Err-clause-made : goal.returns-in-Err-clause-made
returns-in-Err-clause-made g c =
    looked_made g.T.Serves.server g.T.Serves.lawful c.args.room.now.session c.args.pass.now c.loop.pass (g.O.Sink.held c.args.output.now) (g.O.Sink.held c.loop.output) c.loop.invariant.writing c.look.new.pass c.look.ensures.goes_on
    c.in-Err.end c.in-Err.ensures.looked

pub returns-in-Err-clause-written : goal.returns-in-Err-clause-written
returns-in-Err-clause-written g c =
    looked_written g.T.Serves.server g.T.Serves.lawful c.args.room.now.session c.args.pass.now c.loop.pass (g.O.Sink.held c.args.output.now) (g.O.Sink.held c.loop.output) c.loop.invariant.writing c.look.new.pass c.look.ensures.goes_on
    c.in-Err.end c.in-Err.ensures.looked

pub returns-in-Some-put-clause-spent : goal.returns-in-Some-put-clause-spent
returns-in-Some-put-clause-spent g c = put_spent (g.O.Sink.held c.loop.output) c.as_slice.result.now (g.O.Sink.held c.put.new.output) (g.O.Sink.unflushed c.put.new.output) c.look.new.pass c.in-Some-put.end c.in-Some-put.ensures.put

pub returns-in-Err-clause-spent : goal.returns-in-Err-clause-spent
returns-in-Err-clause-spent g c =
    looked_spent g.T.Serves.server g.T.Serves.lawful c.args.room.now.session c.args.pass.now c.loop.pass (g.O.Sink.held c.args.output.now) (g.O.Sink.held c.loop.output) c.loop.invariant.writing c.look.new.pass c.look.ensures.goes_on
    c.in-Err.end c.in-Err.ensures.looked
