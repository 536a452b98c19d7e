-- A history that runs event by event, and the watch of a session in it.
use Rattle.std.proofs.Common.{◌≡◌, ◌+◌, ℕ, true, List, [], ◌∷◌, ◌++◌, length, Some, None, refl, sym, ap, subst, ◌∙◌, append_assoc, arith}
use Rattle.std.proofs.lemmas.List.{append-nil, length-append}
use Rattle.r9_event.specs.declared.event.event.Did.{Did}
use Rattle.r9_event.specs.declared.event.event.Entry.{Entry}
use Rattle.r9_event.specs.declared.event.event.Event.{Event}
use Rattle.r9_event.specs.declared.event.event.Event.TheVariants.{Begin, Msg, Take, End, Stop}
use Rattle.r9_event.specs.declared.event.event.Opening.{Opening}
use Rattle.model_history.specs.event.Legal.{IsLegal}
use Rattle.model_world.specs.Replay.{marked, replay, step}
use Rattle.model_world.specs.World.{World, opened}
use Rattle.model_world.proofs.Histories.{world_from-push}
use Rattle.model_alone.specs.alone.Own.{Judged, is_empty, lowest, not_alone, unseen}
use Rattle.model_alone.specs.alone.Uses.{event_used}
use Rattle.r9_hall.specs.hall.StateView as hall
use Rattle.r9_hall.specs.hall.WorldView.{IsFirst, IsStepped, WorldValue, world_in}
use Rattle.r9_serve.specs.replay.Replayed.{MayRun}
use Rattle.r9_serve.proofs.replay.Replaying as replaying
use Rattle.r9_isol.specs.watch.Words as words
use Rattle.r9_isol.specs.watch.Watching.{Watching, IsNotAlone, after_judged, shown}
use Rattle.r9_isol.specs.watch.History.{IsNextEntry, next_judged, watched_in}
use Rattle.r9_isol.specs.declared.watch.watch.WatchFault.{WatchFault}
use Rattle.r9_isol.specs.declared.watch.watch.WatchFault.TheVariants.{NotAlone}
use Rattle.r9_isol.proofs.watch.Histories as histories
use Rattle.r9_serve.specs.alone.Watched.{IsWatchedIn}

-- So much of a history has run that these events are left; the session is alone with its window so far.
pub record RunsOn (opening : Opening) (c : ℕ) (all : List Event) (w : WorldValue) (watch : Watching) (number : ℕ) (left : List Event) : Type 0 where
  pub done : List Event
  pub all_is : done ++ left ≡ all
  pub world_is : world_in w ≡ replay opening done
  pub watches : w.watches ≡ true
  pub watch_is : watch ≡ watched_in opening c done
  pub alone : not_alone opening c done ≡ None
  pub counted : number ≡ length done + 1
  pub may : MayRun w left

pub runs_first : (opening : Opening) (c : ℕ) (all : List Event) (w : WorldValue) (watch : Watching) → IsFirst opening w → w.watches ≡ true → watch ≡ record { session = c; seen = unseen; items = [] } → IsLegal all
    → RunsOn opening c all w watch 1 all
runs_first opening c all w watch first watches is legal = record {
  done = [];
  all_is = refl;
  world_is = first.world;
  watches = watches;
  watch_is = is;
  alone = refl;
  counted = refl;
  may = replaying.may_start opening w all first legal;
}

-- a message has a size, a kind and a tag
pub whole_too : (event : Event) → hall.IsWhole event → words.IsWhole event
whole_too (Begin c) whole = tt
whole_too (Msg c bytes mark) whole = whole
whole_too (Take c) whole = tt
whole_too (End c) whole = tt
whole_too Stop whole = tt

-- what an event gave that was made in a world that watches
pub record HasGiven (world : World) (event : Event) (did : Did) : Type 0 where
  pub marked_is : marked event did.short ≡ event
  pub replies_are : did.replies ≡ (step world event).replies
  pub notes_are : did.notes ≡ (step world event).notes
  pub uses_are : did.uses ≡ event_used world (step world event).world event

-- the next entry shows to the watch what it shows by the definition
next_shown : (opening : Opening) (c : ℕ) (done : List Event) (world : World) (watch : Watching) (entry : Entry) (did : Did) → world ≡ replay opening done → watch ≡ watched_in opening c done
    → HasGiven world entry.event did → shown watch entry did ≡ next_judged opening c done entry.event
next_shown opening c done world watch entry did world_is watch_is given =
    let there : HasGiven (replay opening done) entry.event did = subst (λ (w : World). HasGiven w entry.event did) world_is given in
    let same = sym there.marked_is in
    let next : IsNextEntry opening done entry did = record {
      uses_are = there.uses_are ∙ ap (λ (e : Event). event_used (replay opening done) (step (replay opening done) e).world e) same;
      notes_are = there.notes_are ∙ ap (λ (e : Event). (step (replay opening done) e).notes) same;
      replies_are = there.replies_are ∙ ap (λ (e : Event). (step (replay opening done) e).replies) same;
    } in
    ap (λ (w : Watching). shown w entry did) watch_is
    ∙ histories.shows opening c done entry did next
    ∙ ap (λ (e : Event). next_judged opening c done e) there.marked_is

-- one event more, which gives no reason
pub runs_on : (opening : Opening) (c : ℕ) (all : List Event) (w next : WorldValue) (watch after : Watching) (number count : ℕ) (left rest : List Event) (event : Event) (did : Did)
    → left ≡ event ∷ rest → IsStepped w event next → next.watches ≡ w.watches → HasGiven (world_in w) event did
    → is_empty (shown watch (record { number = number; event = event }) did).reasons ≡ true
    → after ≡ after_judged watch (shown watch (record { number = number; event = event }) did) → count ≡ number + 1
    → RunsOn opening c all w watch number left → RunsOn opening c all next after count rest
runs_on opening c all w next watch after number count left rest event did is goes watches given empty told counted runs =
    let entry : Entry = record { number = number; event = event } in
    let same : shown watch entry did ≡ next_judged opening c runs.done event = next_shown opening c runs.done (world_in w) watch entry did runs.world_is runs.watch_is given in
    let goes_on = histories.goes_on opening c runs.done event runs.alone (ap (λ (j : Judged). is_empty j.reasons) (sym same) ∙ empty) in
    record {
      done = runs.done ++ event ∷ [];
      all_is = append_assoc runs.done (event ∷ []) rest ∙ ap (λ (es : List Event). runs.done ++ es) (sym is) ∙ runs.all_is;
      world_is = goes.world ∙ ap (λ (world : World). (step world event).world) runs.world_is ∙ sym (world_from-push (opened opening) runs.done event);
      watches = watches ∙ runs.watches;
      watch_is = told ∙ ap (λ (j : Judged). after_judged watch j) same ∙ ap (λ (old : Watching). after_judged old (next_judged opening c runs.done event)) runs.watch_is ∙ goes_on.watched;
      alone = goes_on.alone;
      counted = omega (arith, counted, runs.counted, length-append runs.done (event ∷ []));
      may = replaying.goes_on w next left rest event is goes runs.may;
    }

-- one that gives reasons is the first that does in the whole history
pub ends_here : (opening : Opening) (c : ℕ) (all : List Event) (w : WorldValue) (watch : Watching) (number : ℕ) (left rest : List Event) (event : Event) (did : Did) (fault : WatchFault) (entry reason : ℕ)
    → left ≡ event ∷ rest → HasGiven (world_in w) event did → IsNotAlone number (shown watch (record { number = number; event = event }) did) fault → fault ≡ NotAlone entry reason
    → RunsOn opening c all w watch number left → not_alone opening c all ≡ Some (entry, reason)
ends_here opening c all w watch number left rest event did fault entry reason is given refused told runs =
    let here : Entry = record { number = number; event = event } in
    let same : shown watch here did ≡ next_judged opening c runs.done event = next_shown opening c runs.done (world_in w) watch here did runs.world_is runs.watch_is given in
    let reasons = subst (λ (f : WatchFault). IsNotAlone number (shown watch here did) f) told refused in
    let ends = histories.ends opening c runs.done event runs.alone (ap (λ (j : Judged). is_empty j.reasons) (sym same) ∙ reasons.1) rest in
    let whole : runs.done ++ event ∷ rest ≡ all = ap (λ (es : List Event). runs.done ++ es) (sym is) ∙ runs.all_is in
    let place : length runs.done + 1 ≡ entry = omega (arith, runs.counted, reasons.0) in
    let lowest_is : lowest (next_judged opening c runs.done event).reasons ≡ reason = ap (λ (j : Judged). lowest j.reasons) (sym same) ∙ sym reasons.2 in
    ap (λ (es : List Event). not_alone opening c es) (sym whole) ∙ ends ∙ λ i. Some (place i, lowest_is i)

-- the whole history has run
pub has_run : (opening : Opening) (c : ℕ) (all : List Event) (w : WorldValue) (watch : Watching) (number : ℕ) (left : List Event) → left ≡ [] → RunsOn opening c all w watch number left → IsWatchedIn opening c all watch
has_run opening c all w watch number left none runs =
    let whole : runs.done ≡ all = sym (append-nil runs.done) ∙ ap (λ (es : List Event). runs.done ++ es) (sym none) ∙ runs.all_is in
    subst (λ (es : List Event). IsWatchedIn opening c es watch) whole (record { watch_is = runs.watch_is; alone = runs.alone })
