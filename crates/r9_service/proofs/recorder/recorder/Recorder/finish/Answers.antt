use Rattle.std.proofs.Common.{◌∙◌}
use Rattle.std.proofs.lemmas.Result.{on_ok_weaker}
use Rattle.r9_service.proofs.recorder.Whole.{front_put, whole_put}
use Rattle.r9_service.proofs.recorder.recorder.Recorder.finish.Goals as goal

pub returns-then-self-clause-part : goal.returns-then-self-clause-part
returns-then-self-clause-part g c = λ loan history was. front_put loan.held _ _ history _ was.put

pub returns-in_err-write-clause-part : goal.returns-in_err-write-clause-part
returns-in_err-write-clause-part g c = λ loan history was. front_put loan.held _ _ history _ (c.write.ensures.records loan history was).put

pub returns-clause-ok : goal.returns-clause-ok
returns-clause-ok g c = λ loan history was.
    let sent = c.send_on.ensures.records loan history (c.write.ensures.records loan history was) in
    on_ok_weaker c.send_on.result (λ _. whole_put loan.held _ _ history _ sent.put (c.send_on.ensures.next ∙ c.in_ok-write.ensures.whole loan history was)) c.send_on.ensures.flushed

pub returns-clause-part : goal.returns-clause-part
returns-clause-part g c = λ loan history was. front_put loan.held _ _ history _ (c.send_on.ensures.records loan history (c.write.ensures.records loan history was)).put
