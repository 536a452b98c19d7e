use Rattle.std.proofs.Common.{◌≡◌, ℕ, List, Result, Ok, Err, refl}
use Rattle.std.specs.Result.{IsErrAnd}
use Rattle.r9_event.specs.declared.event.event.Event.{Event}
use Rattle.r9_event.specs.declared.event.event.Reply.{Reply}
use Rattle.r9_journal.specs.declared.reading.JournalFault.{JournalFault}
use Rattle.r9_journal.specs.declared.reading.JournalFault.TheVariants as journal
use Rattle.r9_serve.specs.declared.alone.fault.AloneFault.{AloneFault}
use Rattle.r9_serve.specs.declared.alone.fault.AloneFault.TheVariants.{BadRecord, LateRecord, Memory}
use Rattle.r9_serve.specs.alone.Faults.{of_journal}
use Rattle.r9_serve.proofs.alone.Replies.{are_replies_to, told_sound}
use Rattle.r9_serve.proofs.alone.alone.alone_text.Goals as goal

was_bad : (first : Result (List Event) JournalFault) (last : Result (List Reply) AloneFault) (fault : JournalFault) (place : ℕ) → first ≡ Err fault → IsErrAnd last (λ e. e ≡ of_journal fault) → last ≡ Err (BadRecord place) → first ≡ Err (journal.Bad place)
was_bad first (Ok x) fault place was handed e = absurd handed
was_bad first (Err x) (journal.Bad p) place was handed e = let same : p ≡ place = cc in rw (was, same) refl
was_bad first (Err x) (journal.Late n) place was handed e = let other : LateRecord n ≡ BadRecord place = cc in absurd (cc other)
was_bad first (Err x) journal.Memory place was handed e = let other : Memory ≡ BadRecord place = cc in absurd (cc other)

was_late : (first : Result (List Event) JournalFault) (last : Result (List Reply) AloneFault) (fault : JournalFault) (n : ℕ) → first ≡ Err fault → IsErrAnd last (λ e. e ≡ of_journal fault) → last ≡ Err (LateRecord n) → first ≡ Err (journal.Late n)
was_late first (Ok x) fault n was handed e = absurd handed
was_late first (Err x) (journal.Late m) n was handed e = let same : m ≡ n = cc in rw (was, same) refl
was_late first (Err x) (journal.Bad p) n was handed e = let other : BadRecord p ≡ LateRecord n = cc in absurd (cc other)
was_late first (Err x) journal.Memory n was handed e = let other : Memory ≡ LateRecord n = cc in absurd (cc other)

pub returns-in_err-left-clause-bad : goal.returns-in_err-left-clause-bad
returns-in_err-left-clause-bad c = λ place e. c.check.ensures.bad place (was_bad _ _ _ _ c.in_err-left.was c.from_residual.ensures.1 e)

pub returns-in_err-left-clause-late : goal.returns-in_err-left-clause-late
returns-in_err-left-clause-late c = λ first e. (c.check.ensures.late first).0 (was_late _ _ _ _ c.in_err-left.was c.from_residual.ensures.1 e)

pub answered-requires : goal.answered-requires
answered-requires c = told_sound _ _ _ _ _ c.in_ok-left.ensures.found.legal c.in_ok-watch.ensures.watched c.items.ensures

pub returns-clause-replies : goal.returns-clause-replies
returns-clause-replies c =
    are_replies_to _ _ _ _ _ _ _ c.in_ok-left.ensures.found c.in_ok-left.ensures.only c.in_ok-watch.ensures.watched c.items.ensures c.in_ok-log.ensures
