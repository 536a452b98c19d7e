use Rattle.std.proofs.Common.{refl}
use Rattle.r9_serve.proofs.serve.Mirrors.{untouched, wrote_first, wrote_frames, wrote_or_not}
use Rattle.r9_serve.proofs.serve.mirror.mirror.Goals as goal

pub returns-in-Ok-clause-out : goal.returns-in-Ok-clause-out
returns-in-Ok-clause-out g c = wrote_frames c.args.opening _ _ _ c.in-Ok.ensures.frames

pub returns-in-Err-BadRecord-clause-out : goal.returns-in-Err-BadRecord-clause-out
returns-in-Err-BadRecord-clause-out g c = untouched c.in-Err-BadRecord.ensures.untouched (λ e. cc e) (λ e. cc e)

pub returns-in-Err-LateRecord-clause-out : goal.returns-in-Err-LateRecord-clause-out
returns-in-Err-LateRecord-clause-out g c = untouched c.in-Err-LateRecord.ensures.untouched (λ e. cc e) (λ e. cc e)

pub returns-in-Err-ReadFault-clause-out : goal.returns-in-Err-ReadFault-clause-out
returns-in-Err-ReadFault-clause-out g c = untouched c.in-Err-ReadFault.ensures.untouched (λ e. cc e) (λ e. cc e)

pub returns-in-Err-WriteFault-clause-out : goal.returns-in-Err-WriteFault-clause-out
returns-in-Err-WriteFault-clause-out g c = wrote_first c.args.opening _ _ _ (c.in-Err-WriteFault.ensures.written cc)

pub returns-in-Err-Memory-clause-out : goal.returns-in-Err-Memory-clause-out
returns-in-Err-Memory-clause-out g c = wrote_or_not c.args.opening _ _ _ c.in-Err-Memory.ensures.untouched
