use Rattle.r9_service.proofs.recorder.recorder.Recorder.act.Goals as goal

pub returns-clause-history : goal.returns-clause-history
returns-clause-history g c = λ loan before was.
    let made = c.make-acted.ensures.history loan before was in
    let after = c.settle-settled.ensures.records loan made.0 made.1 in
    (made.0, record { named = after.named; stood = after.stood; put = after.put; stored = after.stored; size = after.size; counted = after.counted; failed = after.failed }, made.2, made.3)
