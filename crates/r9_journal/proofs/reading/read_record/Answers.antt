use Rattle.std.proofs.Common.{◌≡◌, List, Result, Ok, Err, refl, sym, ◌∙◌}
use Rattle.std.specs.Result.{IsErrAnd}
use Rattle.r9_event.specs.declared.event.event.Event.{Event}
use Rattle.r9_journal.specs.declared.reading.JournalFault.{JournalFault}
use Rattle.r9_journal.proofs.Headers.{spelled_headed}
use Rattle.r9_journal.proofs.Records.{found_late, handed_late, memory_late}
use Rattle.r9_journal.proofs.reading.read_record.Goals as goal

-- a fault that was handed on is the one that was answered
same_fault : (first last : Result (List Event) JournalFault) (fault given : JournalFault) → first ≡ Err fault → IsErrAnd last (λ e. e ≡ fault) → last ≡ Err given → first ≡ Err given
same_fault first (Ok x) fault given was handed e = absurd handed
same_fault first (Err x) fault given was handed e = let is : x ≡ given = cc in let same : fault ≡ given = sym handed ∙ is in rw (was, same) refl

pub returns-in_err-left-clause-bad : goal.returns-in_err-left-clause-bad
returns-in_err-left-clause-bad c = λ place e. c.check.ensures.bad place (same_fault _ _ _ _ c.in_err-left.was c.from_residual.ensures.1 e)

pub returns-in_err-left-clause-late : goal.returns-in_err-left-clause-late
returns-in_err-left-clause-late c = handed_late _ _ c.args.text.now _ _ _ c.in_err-left.was c.from_residual.ensures.1 c.check.ensures.late

pub returns-in_err-event-clause-late : goal.returns-in_err-event-clause-late
returns-in_err-event-clause-late c = memory_late _ c.args.text.now _ _ c.from_residual-in_err-event.ensures.1 (spelled_headed _ _ c.events.invariant.spelled)

pub returns-in_err-push-clause-late : goal.returns-in_err-push-clause-late
returns-in_err-push-clause-late c = memory_late _ c.args.text.now _ _ c.from_residual-in_err-push.ensures.1 (spelled_headed _ _ c.events.invariant.spelled)

pub returns-clause-late : goal.returns-clause-late
returns-clause-late c = found_late _ c.args.text.now _ _ c.events.invariant
