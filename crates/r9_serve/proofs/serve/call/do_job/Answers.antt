use Rattle.std.proofs.Common.{◌⊎◌, inl, inr, sym, subst, arith}
use Rattle.r9_opts.specs.Asked.{AskFor, texts_of}
use Rattle.r9_opts.specs.declared.job.Job.TheVariants.{Gen, Mirror, Serve}
use Rattle.r9_attend.specs.attend.Calls.{told_ends}
use Rattle.r9_attend.specs.workers.Shifts.{told_doors}
use Rattle.r9_service.specs.service.Serving.{side}
use Rattle.r9_serve.specs.declared.serve.call.Ending.{Ending}
use Rattle.r9_serve.specs.declared.serve.status.Status.TheVariants as status
use Rattle.r9_serve.specs.serve.Run.{Ask, IsOutAfter, WasServed}
use Rattle.r9_serve.proofs.serve.Asking.{asks_to_serve}
use Rattle.r9_serve.proofs.serve.Counts.{mirror_high, mirror_wide, workers_within}
use Rattle.r9_serve.proofs.serve.Served.{none_served, served_fault, served_flushed, served_input, served_other, served_out, served_under}
use Rattle.r9_serve.proofs.serve.Statuses.{out_under}
use Rattle.r9_serve.proofs.serve.call.do_job.Goals as goal

widened : {A B C P : Type 0} → (P → B ⊎ C) → A → P → B ⊎ (A × C)
widened {A} {B} {C} caused asks is = by (caused is)
  where
    by : B ⊎ C → B ⊎ (A × C)
    by (inl b) = inl b
    by (inr c) = inr (asks, c)

pub returns-in-Gen-clause-out : goal.returns-in-Gen-clause-out
returns-in-Gen-clause-out g c =
    let asked : AskFor (texts_of c.args.words.now) (Gen c.in-Gen.number) = subst (AskFor (texts_of c.args.words.now)) c.in-Gen.is c.in-Ok.ensures.found in
    subst (λ (e : Ending). IsOutAfter (Ask c.args.words.now) e.status (g.S.Source.left c.args.input.now) (g.O.Sink.held c.args.out.now) (g.O.Sink.held c.generate.new.out)) (sym c.with_line-in-Gen.ensures)
    (out_under (Ask c.args.words.now) (Gen c.in-Gen.number) c.generate.result _ _ _ asked (c.generate.ensures.out (g.S.Source.left c.args.input.now)))

pub mirror-requires-clause-wide : goal.mirror-requires-clause-wide
mirror-requires-clause-wide g c = mirror_wide (texts_of c.args.words.now) c.in-Mirror.opening (subst (AskFor (texts_of c.args.words.now)) c.in-Mirror.is c.in-Ok.ensures.found)

pub mirror-requires-clause-high : goal.mirror-requires-clause-high
mirror-requires-clause-high g c = mirror_high (texts_of c.args.words.now) c.in-Mirror.opening (subst (AskFor (texts_of c.args.words.now)) c.in-Mirror.is c.in-Ok.ensures.found)

pub returns-in-Err-Memory-clause-serves : goal.returns-in-Err-Memory-clause-serves
returns-in-Err-Memory-clause-serves g c =
    let out = side (g.O.Sink.held c.args.out.now) (g.O.Sink.unflushed c.args.out.now) (g.O.Sink.faults c.args.out.now) in
    let err = side (g.E.Sink.held c.args.err.now) (g.E.Sink.unflushed c.args.err.now) (g.E.Sink.faults c.args.err.now) in
    let doors = told_doors g.D.Door.ended g.D.Door.over g.D.Door.faults (told_ends g.D.In.Source.left g.D.In.Source.faults g.D.Out.Sink.held g.D.Out.Sink.unflushed g.D.Out.Sink.faults) in
    λ asks. subst (λ (e : Ending). WasServed doors (Ask c.args.words.now) e.status e.told c.args.doors.now c.args.doors.now out out err err) (sym c.with_line-in-Err-Memory.ensures)
    (none_served doors c.args.words.now c.args.doors.now out err asks)

pub serve_job-requires-clause-workers : goal.serve_job-requires-clause-workers
serve_job-requires-clause-workers g c κs within =
    let asked : AskFor (texts_of c.args.words.now) (Serve c.in-Serve.opening c.in-Serve.listen c.in-Serve.workers c.in-Serve.conns) = subst (AskFor (texts_of c.args.words.now)) c.in-Serve.is c.in-Ok.ensures.found in
    let counted = workers_within (texts_of c.args.words.now) _ _ _ _ asked in
    (omega (arith, counted.0), counted.1, c.requires.doors)

pub returns-in-Serve-clause-usage : goal.returns-in-Serve-clause-usage
returns-in-Serve-clause-usage g c =
    let asked : AskFor (texts_of c.args.words.now) (Serve c.in-Serve.opening c.in-Serve.listen c.in-Serve.workers c.in-Serve.conns) = subst (AskFor (texts_of c.args.words.now)) c.in-Serve.is c.in-Ok.ensures.found in
    let doors = told_doors g.D.Door.ended g.D.Door.over g.D.Door.faults (told_ends g.D.In.Source.left g.D.In.Source.faults g.D.Out.Sink.held g.D.Out.Sink.unflushed g.D.Out.Sink.faults) in
    let was = served_under doors (Ask c.args.words.now) c.in-Serve.opening c.in-Serve.listen c.in-Serve.workers c.in-Serve.conns _ _ _ _ _ _ _ _ asked (c.serve_job.ensures c.in-Serve.listen) in
    λ is job ask. served_other doors (Ask c.args.words.now) _ _ _ _ _ _ _ _ was status.Usage is

pub returns-in-Serve-clause-out : goal.returns-in-Serve-clause-out
returns-in-Serve-clause-out g c =
    let asked : AskFor (texts_of c.args.words.now) (Serve c.in-Serve.opening c.in-Serve.listen c.in-Serve.workers c.in-Serve.conns) = subst (AskFor (texts_of c.args.words.now)) c.in-Serve.is c.in-Ok.ensures.found in
    let doors = told_doors g.D.Door.ended g.D.Door.over g.D.Door.faults (told_ends g.D.In.Source.left g.D.In.Source.faults g.D.Out.Sink.held g.D.Out.Sink.unflushed g.D.Out.Sink.faults) in
    let was = served_under doors (Ask c.args.words.now) c.in-Serve.opening c.in-Serve.listen c.in-Serve.workers c.in-Serve.conns _ _ _ _ _ _ _ _ asked (c.serve_job.ensures c.in-Serve.listen) in
    served_out doors (Ask c.args.words.now) _ _ _ _ _ _ _ _ was (g.S.Source.left c.args.input.now)

pub returns-in-Serve-clause-flushed : goal.returns-in-Serve-clause-flushed
returns-in-Serve-clause-flushed g c =
    let asked : AskFor (texts_of c.args.words.now) (Serve c.in-Serve.opening c.in-Serve.listen c.in-Serve.workers c.in-Serve.conns) = subst (AskFor (texts_of c.args.words.now)) c.in-Serve.is c.in-Ok.ensures.found in
    let doors = told_doors g.D.Door.ended g.D.Door.over g.D.Door.faults (told_ends g.D.In.Source.left g.D.In.Source.faults g.D.Out.Sink.held g.D.Out.Sink.unflushed g.D.Out.Sink.faults) in
    let was = served_under doors (Ask c.args.words.now) c.in-Serve.opening c.in-Serve.listen c.in-Serve.workers c.in-Serve.conns _ _ _ _ _ _ _ _ asked (c.serve_job.ensures c.in-Serve.listen) in
    served_flushed doors (Ask c.args.words.now) _ _ _ _ _ _ _ _ was

pub returns-in-Serve-clause-input : goal.returns-in-Serve-clause-input
returns-in-Serve-clause-input g c =
    let asked : AskFor (texts_of c.args.words.now) (Serve c.in-Serve.opening c.in-Serve.listen c.in-Serve.workers c.in-Serve.conns) = subst (AskFor (texts_of c.args.words.now)) c.in-Serve.is c.in-Ok.ensures.found in
    let doors = told_doors g.D.Door.ended g.D.Door.over g.D.Door.faults (told_ends g.D.In.Source.left g.D.In.Source.faults g.D.Out.Sink.held g.D.Out.Sink.unflushed g.D.Out.Sink.faults) in
    let was = served_under doors (Ask c.args.words.now) c.in-Serve.opening c.in-Serve.listen c.in-Serve.workers c.in-Serve.conns _ _ _ _ _ _ _ _ asked (c.serve_job.ensures c.in-Serve.listen) in
    served_input doors (Ask c.args.words.now) _ _ _ _ _ _ _ _ was (g.S.Source.left c.args.input.now)

pub returns-in-Serve-clause-bad_record : goal.returns-in-Serve-clause-bad_record
returns-in-Serve-clause-bad_record g c =
    let asked : AskFor (texts_of c.args.words.now) (Serve c.in-Serve.opening c.in-Serve.listen c.in-Serve.workers c.in-Serve.conns) = subst (AskFor (texts_of c.args.words.now)) c.in-Serve.is c.in-Ok.ensures.found in
    let doors = told_doors g.D.Door.ended g.D.Door.over g.D.Door.faults (told_ends g.D.In.Source.left g.D.In.Source.faults g.D.Out.Sink.held g.D.Out.Sink.unflushed g.D.Out.Sink.faults) in
    let was = served_under doors (Ask c.args.words.now) c.in-Serve.opening c.in-Serve.listen c.in-Serve.workers c.in-Serve.conns _ _ _ _ _ _ _ _ asked (c.serve_job.ensures c.in-Serve.listen) in
    λ place is. absurd (served_other doors (Ask c.args.words.now) _ _ _ _ _ _ _ _ was (status.BadRecord place) is)

pub returns-in-Serve-clause-late_record : goal.returns-in-Serve-clause-late_record
returns-in-Serve-clause-late_record g c =
    let asked : AskFor (texts_of c.args.words.now) (Serve c.in-Serve.opening c.in-Serve.listen c.in-Serve.workers c.in-Serve.conns) = subst (AskFor (texts_of c.args.words.now)) c.in-Serve.is c.in-Ok.ensures.found in
    let doors = told_doors g.D.Door.ended g.D.Door.over g.D.Door.faults (told_ends g.D.In.Source.left g.D.In.Source.faults g.D.Out.Sink.held g.D.Out.Sink.unflushed g.D.Out.Sink.faults) in
    let was = served_under doors (Ask c.args.words.now) c.in-Serve.opening c.in-Serve.listen c.in-Serve.workers c.in-Serve.conns _ _ _ _ _ _ _ _ asked (c.serve_job.ensures c.in-Serve.listen) in
    λ first is. absurd (served_other doors (Ask c.args.words.now) _ _ _ _ _ _ _ _ was (status.LateRecord first) is)

pub returns-in-Serve-clause-bad_input : goal.returns-in-Serve-clause-bad_input
returns-in-Serve-clause-bad_input g c =
    let asked : AskFor (texts_of c.args.words.now) (Serve c.in-Serve.opening c.in-Serve.listen c.in-Serve.workers c.in-Serve.conns) = subst (AskFor (texts_of c.args.words.now)) c.in-Serve.is c.in-Ok.ensures.found in
    let doors = told_doors g.D.Door.ended g.D.Door.over g.D.Door.faults (told_ends g.D.In.Source.left g.D.In.Source.faults g.D.Out.Sink.held g.D.Out.Sink.unflushed g.D.Out.Sink.faults) in
    let was = served_under doors (Ask c.args.words.now) c.in-Serve.opening c.in-Serve.listen c.in-Serve.workers c.in-Serve.conns _ _ _ _ _ _ _ _ asked (c.serve_job.ensures c.in-Serve.listen) in
    λ place is. absurd (served_other doors (Ask c.args.words.now) _ _ _ _ _ _ _ _ was (status.BadInput place) is)

pub returns-in-Serve-clause-not_alone : goal.returns-in-Serve-clause-not_alone
returns-in-Serve-clause-not_alone g c =
    let asked : AskFor (texts_of c.args.words.now) (Serve c.in-Serve.opening c.in-Serve.listen c.in-Serve.workers c.in-Serve.conns) = subst (AskFor (texts_of c.args.words.now)) c.in-Serve.is c.in-Ok.ensures.found in
    let doors = told_doors g.D.Door.ended g.D.Door.over g.D.Door.faults (told_ends g.D.In.Source.left g.D.In.Source.faults g.D.Out.Sink.held g.D.Out.Sink.unflushed g.D.Out.Sink.faults) in
    let was = served_under doors (Ask c.args.words.now) c.in-Serve.opening c.in-Serve.listen c.in-Serve.workers c.in-Serve.conns _ _ _ _ _ _ _ _ asked (c.serve_job.ensures c.in-Serve.listen) in
    λ entry reason is. absurd (served_other doors (Ask c.args.words.now) _ _ _ _ _ _ _ _ was (status.NotAlone entry reason) is)

pub returns-in-Serve-clause-read_fault : goal.returns-in-Serve-clause-read_fault
returns-in-Serve-clause-read_fault g c =
    let asked : AskFor (texts_of c.args.words.now) (Serve c.in-Serve.opening c.in-Serve.listen c.in-Serve.workers c.in-Serve.conns) = subst (AskFor (texts_of c.args.words.now)) c.in-Serve.is c.in-Ok.ensures.found in
    let doors = told_doors g.D.Door.ended g.D.Door.over g.D.Door.faults (told_ends g.D.In.Source.left g.D.In.Source.faults g.D.Out.Sink.held g.D.Out.Sink.unflushed g.D.Out.Sink.faults) in
    let was = served_under doors (Ask c.args.words.now) c.in-Serve.opening c.in-Serve.listen c.in-Serve.workers c.in-Serve.conns _ _ _ _ _ _ _ _ asked (c.serve_job.ensures c.in-Serve.listen) in
    λ is. absurd (served_other doors (Ask c.args.words.now) _ _ _ _ _ _ _ _ was status.ReadFault is)

pub returns-in-Serve-clause-write_fault : goal.returns-in-Serve-clause-write_fault
returns-in-Serve-clause-write_fault g c =
    let asked : AskFor (texts_of c.args.words.now) (Serve c.in-Serve.opening c.in-Serve.listen c.in-Serve.workers c.in-Serve.conns) = subst (AskFor (texts_of c.args.words.now)) c.in-Serve.is c.in-Ok.ensures.found in
    let doors = told_doors g.D.Door.ended g.D.Door.over g.D.Door.faults (told_ends g.D.In.Source.left g.D.In.Source.faults g.D.Out.Sink.held g.D.Out.Sink.unflushed g.D.Out.Sink.faults) in
    let was = served_under doors (Ask c.args.words.now) c.in-Serve.opening c.in-Serve.listen c.in-Serve.workers c.in-Serve.conns _ _ _ _ _ _ _ _ asked (c.serve_job.ensures c.in-Serve.listen) in
    widened (served_fault doors (Ask c.args.words.now) _ _ _ _ _ _ _ _ was) (asks_to_serve c.args.words.now c.in-Serve.opening c.in-Serve.listen c.in-Serve.workers c.in-Serve.conns asked)

pub returns-in-Serve-clause-serves : goal.returns-in-Serve-clause-serves
returns-in-Serve-clause-serves g c =
    let asked : AskFor (texts_of c.args.words.now) (Serve c.in-Serve.opening c.in-Serve.listen c.in-Serve.workers c.in-Serve.conns) = subst (AskFor (texts_of c.args.words.now)) c.in-Serve.is c.in-Ok.ensures.found in
    let doors = told_doors g.D.Door.ended g.D.Door.over g.D.Door.faults (told_ends g.D.In.Source.left g.D.In.Source.faults g.D.Out.Sink.held g.D.Out.Sink.unflushed g.D.Out.Sink.faults) in
    let was = served_under doors (Ask c.args.words.now) c.in-Serve.opening c.in-Serve.listen c.in-Serve.workers c.in-Serve.conns _ _ _ _ _ _ _ _ asked (c.serve_job.ensures c.in-Serve.listen) in
    λ _. was
