use Rattle.std.proofs.Common.{rules, ◌≡◌, [], ◌∷◌, Option, IfNone, IfSome, Result, Ok, Err, sym, subst, ◌∙◌}
use Rattle.std.specs.Result.{IsErrAnd}
use Rattle.r9_event.specs.declared.event.event.Event.{Event}
use Rattle.r9_isol.specs.watch.Watching.{Watching}
use Rattle.r9_isol.specs.declared.watch.watch.WatchFault.{WatchFault}
use Rattle.r9_serve.proofs.replay.Replaying.{first_next, first_whole}
use Rattle.r9_serve.proofs.alone.Runs.{ends_here, has_run, runs_first, runs_on, whole_too}
use Rattle.r9_serve.proofs.alone.watching.watch_events.Goals as goal

-- a fault that was handed on is the one that was answered
same_fault : (last : Result Watching WatchFault) (fault given : WatchFault) → IsErrAnd last (λ e. e ≡ fault) → last ≡ Err given → fault ≡ given
same_fault (Ok x) fault given handed e = absurd handed
same_fault (Err x) fault given handed e = let is : x ≡ given = cc in sym handed ∙ is

pub events-init : goal.events-init
events-init g c = runs_first _ _ _ _ _ c.requires.first c.requires.watches c.new-watch.ensures c.requires.legal

pub make_seen-requires-clause-whole : goal.make_seen-requires-clause-whole
make_seen-requires-clause-whole g c =
    let first = subst (λ (found : Option Event). IfSome found (λ event. c.events.left ≡ event ∷ c.pop_first.new.self)) c.in-Some.is c.in_ok-event.ensures.first in
    first_whole _ _ _ _ first c.events.invariant.may

pub make_seen-requires-clause-next : goal.make_seen-requires-clause-next
make_seen-requires-clause-next g c =
    let first = subst (λ (found : Option Event). IfSome found (λ event. c.events.left ≡ event ∷ c.pop_first.new.self)) c.in-Some.is c.in_ok-event.ensures.first in
    first_next _ _ _ _ first c.events.invariant.may

pub see-requires : goal.see-requires
see-requires g c =
    let first = subst (λ (found : Option Event). IfSome found (λ event. c.events.left ≡ event ∷ c.pop_first.new.self)) c.in-Some.is c.in_ok-event.ensures.first in
    whole_too _ (first_whole _ _ _ _ first c.events.invariant.may)

pub returns-clause-watched : goal.returns-clause-watched
returns-clause-watched g c =
    has_run _ _ _ _ _ _ _ (subst (λ (found : Option Event). IfNone found (c.events.left ≡ [])) c.in_default.is c.in_ok-event.ensures.none) c.events.invariant

pub returns-in_err-see-clause-ends : goal.returns-in_err-see-clause-ends
returns-in_err-see-clause-ends g c =
    let first = subst (λ (found : Option Event). IfSome found (λ event. c.events.left ≡ event ∷ c.pop_first.new.self)) c.in-Some.is c.in_ok-event.ensures.first in
    let gave = c.in_ok-did.ensures in
    λ entry reason e.
    ends_here _ _ _ _ _ _ _ _ _ c.in_ok-did.did _ entry reason first
    (record { marked_is = gave.marked; replies_are = gave.replies; notes_are = gave.notes; uses_are = gave.uses c.events.invariant.watches })
    c.in_err-see.ensures.refused (same_fault _ _ _ c.from_residual-in_err-see.ensures.1 e) c.events.invariant

pub events-preserved : goal.events-preserved
events-preserved g c =
    let first = subst (λ (found : Option Event). IfSome found (λ event. c.events.left ≡ event ∷ c.pop_first.new.self)) c.in-Some.is c.in_ok-event.ensures.first in
    let gave = c.in_ok-did.ensures in
    runs_on _ _ _ _ _ _ _ _ _ _ _ _ c.in_ok-did.did first gave.world gave.watches
    (record { marked_is = gave.marked; replies_are = gave.replies; notes_are = gave.notes; uses_are = gave.uses c.events.invariant.watches })
    c.in_ok-see.ensures.alone c.in_ok-see.ensures.told (search rules) c.events.invariant
