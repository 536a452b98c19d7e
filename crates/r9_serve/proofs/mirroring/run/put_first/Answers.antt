use Rattle.std.proofs.Common.{inr}
use Rattle.r9_serve.proofs.mirroring.Putting.{put_part, put_text}
use Rattle.r9_serve.proofs.mirroring.run.put_first.Goals as goal

pub returns-clause-ok : goal.returns-clause-ok
returns-clause-ok g c = put_text _ _ _ _ _ c.in-Ok.ensures.frame c.as_slice.ensures c.in_ok-put_all.ensures.ok

pub returns-clause-part : goal.returns-clause-part
returns-clause-part g c = inr (put_part _ _ _ _ _ c.in-Ok.ensures.frame c.as_slice.ensures c.in_ok-put_all.ensures.part)

pub returns-in_err-put_all-clause-part : goal.returns-in_err-put_all-clause-part
returns-in_err-put_all-clause-part g c = inr (put_part _ _ _ _ _ c.in-Ok.ensures.frame c.as_slice.ensures c.in_err-put_all.ensures.part)

pub returns-in_err-put_all-clause-written : goal.returns-in_err-put_all-clause-written
returns-in_err-put_all-clause-written g c = λ _. put_part _ _ _ _ _ c.in-Ok.ensures.frame c.as_slice.ensures c.in_err-put_all.ensures.part
