use Rattle.std.proofs.Common.{refl}
use Rattle.r9_serve.proofs.replay.Lines.{last_part, whole_lines}
use Rattle.r9_serve.proofs.replay.log.ReplyLog.put_lines.Goals as goal

pub returns-in_err-put_all-clause-part : goal.returns-in_err-put_all-clause-part
returns-in_err-put_all-clause-part g c =
    last_part _ _ _ _ _ _ _ _ _ c.in_ok-lines.ensures.ok.1 c.in_ok-lines.ensures.ok.2 (whole_lines _ _ _ _ _ c.deref.ensures.value c.as_slice.ensures c.self.view_is)
    c.as_slice-2.ensures c.in_err-put_all.ensures.part refl

pub returns-in-Ok-clause-part : goal.returns-in-Ok-clause-part
returns-in-Ok-clause-part g c =
    last_part _ _ _ _ _ _ _ _ _ c.in_ok-lines.ensures.ok.1 c.in_ok-lines.ensures.ok.2 (whole_lines _ _ _ _ _ c.deref.ensures.value c.as_slice.ensures c.self.view_is)
    c.as_slice-2.ensures c.in_ok-put_all.ensures.part c.in-Ok.ensures.same

pub returns-clause-part : goal.returns-clause-part
returns-clause-part g c =
    last_part _ _ _ _ _ _ _ _ _ c.in_ok-lines.ensures.ok.1 c.in_ok-lines.ensures.ok.2 (whole_lines _ _ _ _ _ c.deref.ensures.value c.as_slice.ensures c.self.view_is)
    c.as_slice-2.ensures c.in_ok-put_all.ensures.part c.in-Err.ensures.same
