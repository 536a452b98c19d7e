use Rattle.std.proofs.Common.{refl}
use Rattle.r9_serve.proofs.replay.Screens.{line_part, file_part}
use Rattle.r9_serve.proofs.replay.screen.put_file.Goals as goal

pub returns-in_err-put_all-clause-part : goal.returns-in_err-put_all-clause-part
returns-in_err-put_all-clause-part g c =
    line_part _ _ c.args.file.now _ _ c.as_slice.ensures c.in-Ok.ensures c.in_err-put_all.ensures.part

pub returns-in_err-put_all-2-clause-part : goal.returns-in_err-put_all-2-clause-part
returns-in_err-put_all-2-clause-part g c =
    file_part _ _ _ _ c.args.file.now _ _ c.as_slice.ensures c.in-Ok.ensures c.in_ok-put_all.ensures.ok c.in_err-put_all-2.ensures.part refl

pub returns-in-Ok-flush-clause-part : goal.returns-in-Ok-flush-clause-part
returns-in-Ok-flush-clause-part g c =
    file_part _ _ _ _ c.args.file.now _ _ c.as_slice.ensures c.in-Ok.ensures c.in_ok-put_all.ensures.ok c.in_ok-put_all-2.ensures.part c.in-Ok-flush.ensures.same

pub returns-clause-part : goal.returns-clause-part
returns-clause-part g c =
    file_part _ _ _ _ c.args.file.now _ _ c.as_slice.ensures c.in-Ok.ensures c.in_ok-put_all.ensures.ok c.in_ok-put_all-2.ensures.part c.in-Err.ensures.same
