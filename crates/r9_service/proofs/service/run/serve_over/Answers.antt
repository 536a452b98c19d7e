use Rattle.std.proofs.Common.{[], List, refl, sym, ap, subst, ◌∙◌, arith}
use Rattle.r9_event.specs.declared.event.event.Entry.{Entry}
use Rattle.r9_lock.specs.Histories.{history_of}
use Rattle.model_served.specs.served.Served.{served}
use Rattle.r9_attend.specs.attend.Calls.{told_ends}
use Rattle.r9_attend.specs.workers.Shifts.{told_doors, share_of}
use Rattle.r9_service.specs.recorder.Recording.{Records}
use Rattle.r9_service.proofs.service.Ran.{no_lock_ran, all_ran}
use Rattle.r9_service.proofs.service.run.serve_over.Goals as goal

pub returns-then-not-has_threads-clause-ran : goal.returns-then-not-has_threads-clause-ran
returns-then-not-has_threads-clause-ran g c =
    let doors = told_doors g.D.Door.ended g.D.Door.over g.D.Door.faults (told_ends g.D.In.Source.left g.D.In.Source.faults g.D.Out.Sink.held g.D.Out.Sink.unflushed g.D.Out.Sink.faults) in
    let service = c.args.service.now in
    let is = c.short.ensures in (
      [],
      c.requires.recorder,
      no_lock_ran doors (served g.J.Runs.opening) (share_of service.sessions service.workers) service.workers c.args.doors.now _ is.none is.short.0 is.short.1,
    )

pub returns-in-Err-clause-ran : goal.returns-in-Err-clause-ran
returns-in-Err-clause-ran g c =
    let doors = told_doors g.D.Door.ended g.D.Door.over g.D.Door.faults (told_ends g.D.In.Source.left g.D.In.Source.faults g.D.Out.Sink.held g.D.Out.Sink.unflushed g.D.Out.Sink.faults) in
    let service = c.args.service.now in
    let is = c.short-in-Err.ensures in
    let same = ap (λ r. r.recorder) c.in-Err.ensures.refused ∙ c.new-running.ensures in (
      [],
      subst (λ r. Records g.H.Keeps.first g.H.Keeps.stands g.O.Sink.held g.O.Sink.faults g.J.Runs.loan r []) (sym same) c.requires.recorder,
      no_lock_ran doors (served g.J.Runs.opening) (share_of service.sessions service.workers) service.workers c.args.doors.now _ is.none is.short.0 is.short.1,
    )

pub returns-clause-ran : goal.returns-clause-ran
returns-clause-ran g c =
    let doors = told_doors g.D.Door.ended g.D.Door.over g.D.Door.faults (told_ends g.D.In.Source.left g.D.In.Source.faults g.D.Out.Sink.held g.D.Out.Sink.unflushed g.D.Out.Sink.faults) in
    let service = c.args.service.now in
    let value = c.close-recorder.result in
    let hall = value.recorder.hall in
    let before = c.in-Ok.started.1 in
    let after = c.work.new.pass in
    let whole = c.close-recorder.ensures in
    let history : List Entry = history_of after.seen (g.H.Keeps.first hall) (g.H.Keeps.stored hall) in
    let lawful = c.told_of_recorder.ensures g.J.Runs.loan value.recorder history whole.fits.0 in
    let none = ap (λ p. p.made) c.in-Ok.ensures.pass in (
      history,
      whole.fits.0,
      all_ran doors (served g.J.Runs.opening) (share_of service.sessions service.workers) service.workers c.args.doors.now c.work.new.doors before after history c.work.result c.work.ensures none whole.all_made whole.least
          (λ old new few did. c.told_of_history.ensures (share_of service.sessions service.workers) old new before after c.work.result value history (omega (arith, few, c.requires.workers.1)) none did whole lawful.1)
          lawful,
    )
