use Rattle.std.proofs.Common.{◌≡◌, ◌∙◌, ◌∷◌, inr, Option, Result, Ok, Err, IfNone, IfSome, length, ap, refl, subst, sym, arith}
use Rattle.std.specs.Result.{IsErrAnd}
use Rattle.std.specs.Prelude.{[]}
use Rattle.r9_event.specs.declared.event.event.Event.{Event}
use Rattle.r9_outside.specs.declared.outside.sink.SinkFault.{SinkFault}
use Rattle.r9_serve.proofs.mirroring.Putting.{all_frames, begins_mirroring, display_after, display_before, entry_part, event_next, event_whole, first_display, first_front, first_part, goes_on_mirroring, paid, so_far_front}
use Rattle.r9_serve.proofs.mirroring.run.put_frames.Goals as goal

-- a fault that was handed on is the one that was answered
same_fault : {A B : Type 0} (first : Result A SinkFault) (last : Result B SinkFault) (fault given : SinkFault) → first ≡ Err fault → IsErrAnd last (λ e. e ≡ fault) → last ≡ Err given → first ≡ Err given
same_fault first (Ok x) fault given was handed e = absurd handed
same_fault first (Err x) fault given was handed e = let is : x ≡ given = cc in let same : fault ≡ given = sym handed ∙ is in rw (was, same) refl

pub put_first-requires : goal.put_first-requires
put_first-requires g c = record { display = first_display c.args.opening c.requires.wide c.requires.high c.gather_laws.ensures _ c.in-Ok.ensures.first }

pub events-init : goal.events-init
events-init g c = record {
  mirroring = begins_mirroring c.args.opening c.requires.wide c.requires.high c.gather_laws.ensures c.args.left _ _ _ _ c.requires.legal c.in-Ok.ensures.first c.in_ok-put_first.ensures.world c.in_ok-put_first.ensures.begun c.in_ok-put_first.ensures.broken
      c.in_ok-put_first.ensures.unmarked c.in_ok-put_first.ensures.ok;
  room = omega (arith, c.requires.few);
  counted = c.in_ok-put_first.ensures.counted;
}

pub returns-in_err-put_first-clause-part : goal.returns-in_err-put_first-clause-part
returns-in_err-put_first-clause-part g c = first_part c.args.opening c.requires.wide c.requires.high c.gather_laws.ensures c.args.left _ _ _ c.in-Ok.ensures.first c.in_err-put_first.ensures.part

pub returns-in_err-put_first-clause-written : goal.returns-in_err-put_first-clause-written
returns-in_err-put_first-clause-written g c =
    λ wrote. first_front c.args.opening c.requires.wide c.requires.high c.gather_laws.ensures c.args.left _ _ _ c.in-Ok.ensures.first
    (c.put_first.ensures.written (same_fault _ _ _ _ c.in_err-put_first.was c.from_residual.ensures.1 wrote))

pub returns-in_err-event-clause-part : goal.returns-in_err-event-clause-part
returns-in_err-event-clause-part g c = inr (so_far_front _ _ _ _ _ _ _ _ c.events.invariant.mirroring refl)

pub returns-in_err-event-clause-written : goal.returns-in_err-event-clause-written
returns-in_err-event-clause-written g c = λ _. so_far_front _ _ _ _ _ _ _ _ c.events.invariant.mirroring refl

pub put_entry-requires-clause-whole : goal.put_entry-requires-clause-whole
put_entry-requires-clause-whole g c =
    let first = subst (λ (found : Option Event). IfSome found (λ event. c.events.left ≡ event ∷ c.pop_event.new.left)) c.in-Some.is c.in_ok-event.ensures.first in
    event_whole c.args.opening c.requires.wide c.requires.high c.gather_laws.ensures _ _ c.requires.few _ _ _ _ c.events.invariant.mirroring _ _ first

pub put_entry-requires-clause-next : goal.put_entry-requires-clause-next
put_entry-requires-clause-next g c =
    let first = subst (λ (found : Option Event). IfSome found (λ event. c.events.left ≡ event ∷ c.pop_event.new.left)) c.in-Some.is c.in_ok-event.ensures.first in
    event_next c.args.opening c.requires.wide c.requires.high c.gather_laws.ensures _ _ c.requires.few _ _ _ _ c.events.invariant.mirroring _ _ first

pub put_entry-requires-clause-before : goal.put_entry-requires-clause-before
put_entry-requires-clause-before g c =
    let first = subst (λ (found : Option Event). IfSome found (λ event. c.events.left ≡ event ∷ c.pop_event.new.left)) c.in-Some.is c.in_ok-event.ensures.first in
    display_before c.args.opening c.requires.wide c.requires.high c.gather_laws.ensures _ _ c.requires.few _ _ _ _ c.events.invariant.mirroring _ _ first

pub put_entry-requires-clause-after : goal.put_entry-requires-clause-after
put_entry-requires-clause-after g c =
    let first = subst (λ (found : Option Event). IfSome found (λ event. c.events.left ≡ event ∷ c.pop_event.new.left)) c.in-Some.is c.in_ok-event.ensures.first in
    display_after c.args.opening c.requires.wide c.requires.high c.gather_laws.ensures _ _ c.requires.few _ _ _ _ c.events.invariant.mirroring _ _ first

pub put_entry-requires-clause-paid : goal.put_entry-requires-clause-paid
put_entry-requires-clause-paid g c =
    let first = subst (λ (found : Option Event). IfSome found (λ event. c.events.left ≡ event ∷ c.pop_event.new.left)) c.in-Some.is c.in_ok-event.ensures.first in
    paid c.args.opening c.requires.wide c.requires.high c.gather_laws.ensures _ _ c.requires.few _ _ _ _ c.events.invariant.mirroring _ _ first

pub put_entry-requires-clause-going : goal.put_entry-requires-clause-going
put_entry-requires-clause-going g c = c.events.invariant.mirroring.going

pub put_entry-requires-clause-unmarked : goal.put_entry-requires-clause-unmarked
put_entry-requires-clause-unmarked g c = c.events.invariant.mirroring.unmarked

pub returns-in_err-put_entry-clause-part : goal.returns-in_err-put_entry-clause-part
returns-in_err-put_entry-clause-part g c =
    let first = subst (λ (found : Option Event). IfSome found (λ event. c.events.left ≡ event ∷ c.pop_event.new.left)) c.in-Some.is c.in_ok-event.ensures.first in
    inr (entry_part c.args.opening c.requires.wide c.requires.high c.gather_laws.ensures _ _ c.requires.few _ _ _ _ c.events.invariant.mirroring _ _ first _ _ refl c.in_err-put_entry.ensures.part)

pub returns-in_err-put_entry-clause-written : goal.returns-in_err-put_entry-clause-written
returns-in_err-put_entry-clause-written g c =
    let first = subst (λ (found : Option Event). IfSome found (λ event. c.events.left ≡ event ∷ c.pop_event.new.left)) c.in-Some.is c.in_ok-event.ensures.first in
    λ _. entry_part c.args.opening c.requires.wide c.requires.high c.gather_laws.ensures _ _ c.requires.few _ _ _ _ c.events.invariant.mirroring _ _ first _ _ refl c.in_err-put_entry.ensures.part

pub events-preserved : goal.events-preserved
events-preserved g c =
    let first = subst (λ (found : Option Event). IfSome found (λ event. c.events.left ≡ event ∷ c.pop_event.new.left)) c.in-Some.is c.in_ok-event.ensures.first in
    let put = c.in_ok-put_entry.ensures in
    record {
      mirroring = goes_on_mirroring c.args.opening c.requires.wide c.requires.high c.gather_laws.ensures _ _ c.requires.few _ _ _ _ c.events.invariant.mirroring _ _ first _ _ _ refl put.world put.unmarked put.ok;
      room = omega (arith, ap length first, c.events.invariant.room);
      counted = omega (arith, c.events.invariant.counted, put.counted);
    }

pub returns-in-Ok-flush-clause-ok : goal.returns-in-Ok-flush-clause-ok
returns-in-Ok-flush-clause-ok g c =
    let none = subst (λ (found : Option Event). IfNone found (c.events.left ≡ [])) c.in_default-2.is c.in_ok-event.ensures.none in
    let all = all_frames _ _ _ _ _ _ _ _ c.events.invariant.mirroring none c.in-Ok-flush.ensures.same in
    (all.0, all.1, all.2, c.in-Ok-flush.ensures.flushed)

pub returns-in-Ok-flush-clause-part : goal.returns-in-Ok-flush-clause-part
returns-in-Ok-flush-clause-part g c = inr (so_far_front _ _ _ _ _ _ _ _ c.events.invariant.mirroring c.in-Ok-flush.ensures.same)

pub returns-clause-part : goal.returns-clause-part
returns-clause-part g c = inr (so_far_front _ _ _ _ _ _ _ _ c.events.invariant.mirroring c.in-Err.ensures.same)

pub returns-clause-written : goal.returns-clause-written
returns-clause-written g c = λ _. so_far_front _ _ _ _ _ _ _ _ c.events.invariant.mirroring c.in-Err.ensures.same

pub returns-in_err-put_entry-clause-failed : goal.returns-in_err-put_entry-clause-failed
returns-in_err-put_entry-clause-failed g c = λ wrote.
    let rose = c.put_entry.ensures.failed (same_fault _ _ _ _ c.in_err-put_entry.was c.from_residual-in_err-put_entry.ensures.1 wrote) in
    omega (arith, c.events.invariant.counted, rose)
