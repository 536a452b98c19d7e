use Rattle.std.proofs.Common.{◌≡◌, List, Result, Ok, Err, refl, sym, ◌∙◌}
use Rattle.std.specs.Result.{IsErrAnd}
use Rattle.r9_event.specs.declared.event.event.Event.{Event}
use Rattle.r9_journal.specs.declared.reading.JournalFault.{JournalFault}
use Rattle.r9_serve.specs.declared.replay.replay.Ended.{Ended}
use Rattle.r9_serve.proofs.replay.replay.replay_text.Goals as goal

-- a fault that was handed on is the one that was answered
same_fault : (first : Result (List Event) JournalFault) (last : Result Ended JournalFault) (fault given : JournalFault) → first ≡ Err fault → IsErrAnd last (λ e. e ≡ fault) → last ≡ Err given → first ≡ Err given
same_fault first (Ok x) fault given was handed e = absurd handed
same_fault first (Err x) fault given was handed e = let is : x ≡ given = cc in let same : fault ≡ given = sym handed ∙ is in rw (was, same) refl

pub replayed-requires-clause-legal : goal.replayed-requires-clause-legal
replayed-requires-clause-legal c = c.in_ok-left.ensures.found.legal

pub returns-clause-replies : goal.returns-clause-replies
returns-clause-replies c = record { events = _; is_record = c.in_ok-left.ensures.found; one = c.in_ok-left.ensures.only; are_replies = c.in_ok-ended.ensures.replies; led = c.in_ok-ended.ensures.world }

pub returns-in_err-left-clause-bad : goal.returns-in_err-left-clause-bad
returns-in_err-left-clause-bad c = λ place e. c.check.ensures.bad place (same_fault _ _ _ _ c.in_err-left.was c.from_residual.ensures.1 e)

pub returns-in_err-left-clause-late : goal.returns-in_err-left-clause-late
returns-in_err-left-clause-late c = λ first e. (c.check.ensures.late first).0 (same_fault _ _ _ _ c.in_err-left.was c.from_residual.ensures.1 e)
