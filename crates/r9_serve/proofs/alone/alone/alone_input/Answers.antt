use Rattle.std.proofs.Common.{refl}
use Rattle.std.proofs.lemmas.Result.{IfOk-weaker}
use Rattle.r9_serve.proofs.replay.Taking.{was_bad, was_late}
use Rattle.r9_serve.proofs.alone.Taken.{was_not_alone, were_lone_replies}
use Rattle.r9_serve.proofs.alone.alone.alone_input.Goals as goal

pub returns-clause-replies : goal.returns-clause-replies
returns-clause-replies g c =
    IfOk-weaker c.alone_text.result _ _ (λ log are. were_lone_replies _ _ _ _ _ _ log c.in-Ok.ensures.read c.as_slice.ensures are) c.alone_text.ensures.replies

pub returns-clause-not_alone : goal.returns-clause-not_alone
returns-clause-not_alone g c = λ entry reason e. was_not_alone _ _ _ _ _ _ entry reason c.in-Ok.ensures.read c.as_slice.ensures (c.alone_text.ensures.not_alone entry reason e)

pub returns-clause-bad_record : goal.returns-clause-bad_record
returns-clause-bad_record g c = λ place e. was_bad _ _ _ _ place place c.in-Ok.ensures.read c.as_slice.ensures (c.alone_text.ensures.bad place e) refl

pub returns-clause-late_record : goal.returns-clause-late_record
returns-clause-late_record g c = λ first e. was_late _ _ _ _ first first c.in-Ok.ensures.read c.as_slice.ensures (c.alone_text.ensures.late first e) refl
