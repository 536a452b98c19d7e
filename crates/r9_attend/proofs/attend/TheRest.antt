-- What a writer drops when it gives its session up.
use Rattle.std.proofs.Common.{◌≡◌, ℕ, ◌≤◌, Bool, true, false, List, [], ◌++◌, refl, sym, ap, ◌∙◌, subst, arith, ⊎_elim, inl, inr}
use Rattle.std.specs.Prelude.{◌⊎◌, Option, Some, None, Result, Ok, Err, All}
use Rattle.std.specs.Option.{option_map}
use Rattle.std.proofs.lemmas.List.{append-nil, take-append-le, length-append}
use Rattle.std.proofs.lemmas.List.Elements.{All-nil, All-weaker}
use Rattle.std.proofs.lemmas.Bool.{eq-eqb}
use Rattle.r9_event.specs.declared.event.event.Event.TheVariants.{Take, End, Stop}
use Rattle.r9_event.specs.declared.event.event.Entry.{Entry}
use Rattle.r9_event.specs.declared.event.ask.Ask.TheVariants as ask
use Rattle.r9_event.specs.declared.event.ask.Answer.TheVariants as answer
use Rattle.r9_lock.specs.Passes.{Known}
use Rattle.r9_outside.specs.outside.Count.{Rose}
use Rattle.r9_outside.specs.outside.Sink.{AppendsPart}
use Rattle.model_history.specs.event.Journal.{events_of}
use Rattle.model_served.specs.session.Server.{Server, takes, is_take}
use Rattle.model_served.specs.session.Acts.{Enters}
use Rattle.r9_attend.specs.declared.attend.ends.WriteEnd.{WriteEnd}
use Rattle.r9_attend.specs.declared.attend.ends.WriteEnd.TheVariants.{Done, WriteFault, Memory, Spent, Crowded}
use Rattle.r9_attend.specs.attend.Passes.{GoesOn, made_since, IsOwn}
use Rattle.r9_attend.specs.attend.Sessions.{IsWritten, IsWriters}
use Rattle.r9_attend.specs.attend.Steps.{IsLooked, IsSpent, HasGivenUp, HasWritten}
use Rattle.r9_attend.proofs.attend.Growing.{goes_both, All-since, own_before, own_back, since_is, since_few, turn_numbers, behind, seen_entered, All-entered, All-stayed}
use Rattle.r9_attend.proofs.attend.TheWriter.{takes_behind, takes_more}
use Rattle.r9_attend.proofs.attend.TheEnd.{no_message_made}

-- a front of bytes is one of more bytes
part_longer : (before after : Option (List ℕ)) (xs ys : List ℕ) → AppendsPart before xs after → AppendsPart before (xs ++ ys) after
part_longer before after xs ys part = (
  part.0,
  (let l = part.1 in omega (arith, length-append xs ys)),
  part.2 ∙ ap (λ p. option_map (λ held. held ++ p) before) (sym (take-append-le part.0 xs ys part.1)),
)

module _ (s : Server) (c : ℕ) where
  -- what was put is a front of what was taken in a history
  abbrev IsFront : (start now : Known Entry) (before after : Option (List ℕ)) → Type 0
  IsFront start now before after = (history : List Entry) → IsOwn (is_take c) now.seen (made_since start now) history → AppendsPart before (takes s c (events_of history)) after

  dropped_made : (old new : Known Entry) (found : Result (Option (List ℕ)) WriteEnd) → IsLooked s c found old new → All (IsWriters c) (made_since old new)
  dropped_made old new (Ok (Some bytes)) t = All-entered s (ask.Look c) (answer.Taken bytes) old new t (IsWriters c) (Take c) t.may.0 (λ n. inl (eq-eqb c c refl))
  dropped_made old new (Ok None) t = All-stayed s (ask.Look c) answer.Nothing old new t (IsWriters c) t.may.0.same
  dropped_made old new (Err Done) t = All-stayed s (ask.Look c) answer.Over old new t (IsWriters c) t.may.0.same
  dropped_made old new (Err Memory) t = ⊎_elim
      (λ (h : t.before ++ t.entry ≡ t.before). All-stayed s (ask.Look c) answer.Memory old new t (IsWriters c) h)
      (λ (h : Enters Stop t.before (t.before ++ t.entry)). All-entered s (ask.Look c) answer.Memory old new t (IsWriters c) Stop h (λ n. inr (inr refl)))
      t.may
  dropped_made old new (Err (Spent count)) t = subst (All (IsWriters c)) (sym (since_is old new [] (t.made ∙ sym (append-nil old.made)))) (All-nil (IsWriters c))
  dropped_made old new (Err WriteFault) t = absurd t
  dropped_made old new (Err Crowded) t = absurd t

  module _ (start old new : Known Entry) (first : GoesOn start old) (goes : GoesOn old new) (before after : Option (List ℕ)) (front : IsFront start old before after) where
    -- nothing was taken
    front_kept : All (λ m. is_take c m.1.event ≡ false) (made_since old new) → IsFront start new before after
    front_kept none history own = front history (own_back (is_take c) start old new first goes none history own)

    front_dropped : (found : Result (Option (List ℕ)) WriteEnd) → IsLooked s c found old new → IsFront start new before after
    front_dropped (Ok (Some bytes)) t history own =
        let b = behind (is_take c) new.seen (made_since start new) history (since_few (is_take c) start new _ (turn_numbers s (ask.Look c) (answer.Taken bytes) old new t)) own in
        let more : takes s c (events_of history) ≡ takes s c (events_of t.before) ++ bytes =
        takes_behind s c new.seen history b ∙ ap (takes s c) (seen_entered s (ask.Look c) (answer.Taken bytes) old new t (Take c) t.may.0)
        ∙ takes_more s c (events_of t.before) ∙ ap (λ l. takes s c (events_of t.before) ++ l) (sym t.may.1) in
        subst (λ l. AppendsPart before l after) (sym more)
        (part_longer before after (takes s c (events_of t.before)) bytes (front t.before (own_before (is_take c) s (ask.Look c) (answer.Taken bytes) start old new t first goes history own)))
    front_dropped (Ok None) t history own = front_kept (All-stayed s (ask.Look c) answer.Nothing old new t (λ m. is_take c m.1.event ≡ false) t.may.0.same) history own
    front_dropped (Err Done) t history own = front_kept (All-stayed s (ask.Look c) answer.Over old new t (λ m. is_take c m.1.event ≡ false) t.may.0.same) history own
    front_dropped (Err Memory) t history own = front_kept (⊎_elim
        (λ (h : t.before ++ t.entry ≡ t.before). All-stayed s (ask.Look c) answer.Memory old new t (λ m. is_take c m.1.event ≡ false) h)
        (λ (h : Enters Stop t.before (t.before ++ t.entry)). All-entered s (ask.Look c) answer.Memory old new t (λ m. is_take c m.1.event ≡ false) Stop h (λ n. refl))
        t.may) history own
    front_dropped (Err (Spent count)) t history own = front_kept (subst (All (λ m. is_take c m.1.event ≡ false)) (sym (since_is old new [] (t.made ∙ sym (append-nil old.made)))) (All-nil (λ m. is_take c m.1.event ≡ false))) history own
    front_dropped (Err WriteFault) t history own = absurd t
    front_dropped (Err Crowded) t history own = absurd t

  module _ (start old new : Known Entry) (gave : HasGivenUp s c old new) (first : GoesOn start old) where
    given_up_goes : GoesOn old new
    given_up_goes = goes_both old gave.ended new gave.on gave.goes

    given_up_made : All (IsWriters c) (made_since old new)
    given_up_made = All-since (IsWriters c) old gave.ended new gave.on gave.goes
        (All-weaker (λ m. (m.1.event ≡ End c) ⊎ (m.1.event ≡ Stop)) (IsWriters c) (λ m h. inr h) (made_since old gave.ended) gave.ending)
        (dropped_made gave.ended new gave.found gave.looked)

    given_up_front : (before after : Option (List ℕ)) → IsFront start old before after → IsFront start new before after
    given_up_front before after front = front_dropped start gave.ended new (goes_both start old gave.ended first gave.on) gave.goes before after
        (front_kept start old gave.ended first gave.on before after front (no_message_made c old gave.ended gave.ending (is_take c) refl refl))
        gave.found gave.looked

    -- all that a writer leaves which gave its session up
    pub written_given_up : {O : Type 0} (held : O → Option (List ℕ)) (unflushed : O → Bool) (faults : O → ℕ) (end : WriteEnd) (output_old output : O) → (end ≡ WriteFault) ⊎ (end ≡ Memory)
        → All (λ m. (is_take c m.1.event ≡ true) ⊎ (m.1.event ≡ Stop)) (made_since start old)
        → (end ≡ WriteFault → Rose (faults output_old) (faults output)) → faults output_old ≤ faults output
        → ((history : List Entry) → IsOwn (is_take c) old.seen (made_since start old) history → IsWritten s c end (held output_old) (held output) (events_of history))
        → HasWritten held unflushed faults s c end start new output_old output
    written_given_up held unflushed faults end output_old output which made failed counted out = record {
      pass = goes_both start old new first given_up_goes;
      made = All-since (IsWriters c) start old new first given_up_goes
          (All-weaker (λ m. (is_take c m.1.event ≡ true) ⊎ (m.1.event ≡ Stop)) (IsWriters c) (λ m h. ⊎_elim (λ (k : is_take c m.1.event ≡ true). inl k) (λ (k : m.1.event ≡ Stop). inr (inr k)) h) (made_since start old) made)
          given_up_made;
      ends = ⊎_elim (λ (k : end ≡ WriteFault). inl k) (λ (k : end ≡ Memory). inr (inl k)) which;
      spent = ⊎_elim (λ (k : end ≡ WriteFault). subst (λ e. IsSpent e new) (sym k) tt) (λ (k : end ≡ Memory). subst (λ e. IsSpent e new) (sym k) tt) which;
      failed = failed;
      counted = counted;
      flushed = λ e. absurd (⊎_elim (λ (k : end ≡ WriteFault). let a : Done ≡ WriteFault = sym e ∙ k in cc) (λ (k : end ≡ Memory). let a : Done ≡ Memory = sym e ∙ k in cc) which);
      out = go end which out;
    }
      where
        go : (end : WriteEnd) → (end ≡ WriteFault) ⊎ (end ≡ Memory)
            → ((history : List Entry) → IsOwn (is_take c) old.seen (made_since start old) history → IsWritten s c end (held output_old) (held output) (events_of history))
            → (history : List Entry) → IsOwn (is_take c) new.seen (made_since start new) history → IsWritten s c end (held output_old) (held output) (events_of history)
        go WriteFault which out = given_up_front (held output_old) (held output) out
        go Memory which out = given_up_front (held output_old) (held output) out
        go Done which out = absurd (⊎_elim (λ (k : Done ≡ WriteFault). cc) (λ (k : Done ≡ Memory). cc) which)
        go (Spent count) which out = absurd (⊎_elim (λ (k : Spent count ≡ WriteFault). cc) (λ (k : Spent count ≡ Memory). cc) which)
        go Crowded which out = absurd (⊎_elim (λ (k : Crowded ≡ WriteFault). cc) (λ (k : Crowded ≡ Memory). cc) which)
