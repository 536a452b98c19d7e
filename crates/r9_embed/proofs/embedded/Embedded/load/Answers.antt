use Rattle.std.proofs.Common.{◌≡◌, ◌∷◌, ◌++◌, ℕ, List, [], Result, Ok, Err, ap, sym, subst, ◌∙◌, append_assoc}
use Rattle.std.specs.Prelude.{Option, IfSome, OnErr}
use Rattle.std.specs.Result.{IsErrAnd}
use Rattle.r9_event.specs.declared.event.event.Event.{Event}
use Rattle.r9_journal.specs.declared.reading.JournalFault.{JournalFault}
use Rattle.r9_journal.specs.declared.reading.JournalFault.TheVariants as journal
use Rattle.model_history.specs.records.Record.{IsRecord}
use Rattle.r9_embed.specs.declared.events.LoadFault.{LoadFault}
use Rattle.r9_embed.specs.declared.events.LoadFault.TheVariants as load
use Rattle.r9_embed.specs.Events.{fault_of}
use Rattle.r9_embed.proofs.Made.{as_stored, made_behind, none_made}
use Rattle.r9_embed.proofs.embedded.Embedded.load.Goals as goal

-- a record that goes wrong at a place was told to
bad_before : {A : Type 0} (checked : Result (List Event) JournalFault) (given : Result A LoadFault) (fault : JournalFault) (place : ℕ)
    → checked ≡ Err fault → IsErrAnd given (λ e. e ≡ fault_of fault) → given ≡ Err (load.Bad place) → checked ≡ Err (journal.Bad place)
bad_before checked (Ok x) fault place was handed e = absurd handed
bad_before checked (Err x) (journal.Bad at) place was handed e = let is : x ≡ load.Bad at = handed in cc
bad_before checked (Err x) (journal.Late n) place was handed e = let is : x ≡ load.Late n = handed in absurd cc
bad_before checked (Err x) journal.Memory place was handed e = let is : x ≡ load.Memory = handed in absurd cc

-- and so was one that is late
late_before : {A : Type 0} (checked : Result (List Event) JournalFault) (given : Result A LoadFault) (fault : JournalFault) (n : ℕ)
    → checked ≡ Err fault → IsErrAnd given (λ e. e ≡ fault_of fault) → given ≡ Err (load.Late n) → checked ≡ Err (journal.Late n)
late_before checked (Ok x) fault n was handed e = absurd handed
late_before checked (Err x) (journal.Bad at) n was handed e = let is : x ≡ load.Bad at = handed in absurd cc
late_before checked (Err x) (journal.Late m) n was handed e = let is : x ≡ load.Late m = handed in cc
late_before checked (Err x) journal.Memory n was handed e = let is : x ≡ load.Memory = handed in absurd cc

on_err : {A E : Type 0} {P : Type 0} (r : Result A E) → P → OnErr r P
on_err (Ok x) p = tt
on_err (Err e) p = p

pub returns-in_err-left-clause-bad : goal.returns-in_err-left-clause-bad
returns-in_err-left-clause-bad c = λ place e. c.check.ensures.bad place (bad_before _ _ _ place c.in_err-left.was c.from_residual.ensures.1 e)

pub returns-in_err-left-clause-late : goal.returns-in_err-left-clause-late
returns-in_err-left-clause-late c = λ n e. (c.check.ensures.late n).0 (late_before _ _ _ n c.in_err-left.was c.from_residual.ensures.1 e)

pub returns-in_err-left-clause-part : goal.returns-in_err-left-clause-part
returns-in_err-left-clause-part c = on_err c.from_residual.result (none_made c.args.self.now.hall)

pub returns-in_default-clause-part : goal.returns-in_default-clause-part
returns-in_default-clause-part c = (c.events.invariant.0, c.events.self.hall, c.events.invariant.2, as_stored c.events.self.hall)

pub returns-in-Err-clause-part : goal.returns-in-Err-clause-part
returns-in-Err-clause-part c = (c.events.invariant.0, c.events.self.hall, c.events.invariant.2, c.in-Err.ensures.err)

pub events-preserved-in_default-make : goal.events-preserved-in_default-make
events-preserved-in_default-make c =
    let done : List Event = c.events.invariant.0 in
    let event : Event = c.in-Some.event in
    let left : List Event = c.pop_first.new.self in
    let first : c.events.left ≡ event ∷ left = subst (λ (found : Option Event). IfSome found (λ (e : Event). c.events.left ≡ e ∷ left)) c.in-Some.is c.in-Ok.ensures.first in
    let same : done ++ c.events.left ≡ (done ++ event ∷ []) ++ left = ap (λ (l : List Event). done ++ l) first ∙ sym (append_assoc done (event ∷ []) left) in (
      done ++ event ∷ [],
      subst (λ (l : List Event). IsRecord c.args.text.now l) same c.events.invariant.1,
      made_behind c.args.self.now.hall c.events.self.hall c.make.new.self.hall done event c.in_default-make.field-0 c.events.invariant.2 c.in_default-make.ensures.made,
      c.make.ensures.opening ∙ c.events.invariant.3,
      c.make.ensures.first ∙ c.events.invariant.4,
    )
