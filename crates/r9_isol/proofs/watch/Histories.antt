-- A history with one event more.
use Rattle.std.proofs.Common.{◌≡◌, ◌+◌, ℕ, Bool, true, false, cond, not, List, [], ◌∷◌, ◌++◌, length, Some, None, refl, sym, ap, ◌∙◌, arith}
use Rattle.r9_event.specs.declared.event.event.Did.{Did}
use Rattle.r9_event.specs.declared.event.event.Entry.{Entry}
use Rattle.r9_event.specs.declared.event.event.Event.{Event}
use Rattle.r9_event.specs.declared.event.event.Opening.{Opening}
use Rattle.r9_event.specs.declared.event.own.Item.{Item}
use Rattle.model_world.specs.World.{World, opened}
use Rattle.model_world.specs.Replay.{marked, step, world_from}
use Rattle.model_alone.specs.alone.Own.{Judged, Watched, first_reason, is_empty, judged, judged_by, judged_from, lowest, not_alone, steps_of, unseen}
use Rattle.r9_isol.specs.watch.Watching.{with_step}
use Rattle.r9_isol.specs.watch.History.{next_judged, seen_from, Ends, GoesOn, ShowsTheSame}

judged_then : (c : ℕ) (world : World) (seen : Watched) (events more : List Event) → judged_from c world seen (events ++ more) ≡ judged_from c world seen events ++ judged_from c (world_from world events) (seen_from c world seen events) more
judged_then c world seen [] more = refl
judged_then c world seen (event ∷ events) more = ap (λ (js : List Judged). judged c world seen event ∷ js) (judged_then c (step world event).world (judged c world seen event).seen events more)

seen_then : (c : ℕ) (world : World) (seen : Watched) (events : List Event) (event : Event) → seen_from c world seen (events ++ event ∷ []) ≡ (judged c (world_from world events) (seen_from c world seen events) event).seen
seen_then c world seen [] event = refl
seen_then c world seen (e ∷ events) event = seen_then c (step world e).world (judged c world seen e).seen events event

judged_long : (c : ℕ) (world : World) (seen : Watched) (events : List Event) → length (judged_from c world seen events) ≡ length events
judged_long c world seen [] = refl
judged_long c world seen (event ∷ events) = let more = judged_long c (step world event).world (judged c world seen event).seen events in omega (arith, more)

-- ---- steps

step_then : (js : List Judged) (j : Judged) → steps_of (js ++ j ∷ []) ≡ with_step (steps_of js) j.items
step_then [] j = by (is_empty j.items)
  where
    by : (b : Bool) → cond (not b) (j.items ∷ []) [] ≡ cond b [] (j.items ∷ [])
    by true = refl
    by false = refl
step_then (i ∷ js) j = by (is_empty i.items) (is_empty j.items) (step_then js j)
  where
    by : (a b : Bool) → steps_of (js ++ j ∷ []) ≡ cond b (steps_of js) (steps_of js ++ j.items ∷ [])
        → cond (not a) (i.items ∷ steps_of (js ++ j ∷ [])) (steps_of (js ++ j ∷ [])) ≡ cond b (cond (not a) (i.items ∷ steps_of js) (steps_of js)) (cond (not a) (i.items ∷ steps_of js) (steps_of js) ++ j.items ∷ [])
    by true true same = same
    by true false same = same
    by false true same = ap (λ (steps : List (List Item)). i.items ∷ steps) same
    by false false same = ap (λ (steps : List (List Item)). i.items ∷ steps) same

-- ---- reasons

reason_then : (place : ℕ) (js : List Judged) (j : Judged) (more : List Judged) → first_reason place js ≡ None → is_empty j.reasons ≡ false → first_reason place (js ++ j ∷ more) ≡ Some (place + length js, lowest j.reasons)
reason_then place [] j more none some =
    let here : place ≡ place + 0 = omega arith in
    ap (λ b. cond b (first_reason (place + 1) more) (Some (place, lowest j.reasons))) some ∙ λ i. Some (here i, lowest j.reasons)
reason_then place (i ∷ js) j more none some = by (is_empty i.reasons) (λ none. reason_then (place + 1) js j more none some) none
  where
    count : place + 1 + length js ≡ place + length (i ∷ js)
    count = omega arith

    by : (b : Bool) → (first_reason (place + 1) js ≡ None → first_reason (place + 1) (js ++ j ∷ more) ≡ Some (place + 1 + length js, lowest j.reasons))
        → cond b (first_reason (place + 1) js) (Some (place, lowest i.reasons)) ≡ None
        → cond b (first_reason (place + 1) (js ++ j ∷ more)) (Some (place, lowest i.reasons)) ≡ Some (place + length (i ∷ js), lowest j.reasons)
    by true later none = later none ∙ λ k. Some (count k, lowest j.reasons)
    by false later none = absurd (cc none)

none_then : (place : ℕ) (js : List Judged) (j : Judged) → first_reason place js ≡ None → is_empty j.reasons ≡ true → first_reason place (js ++ j ∷ []) ≡ None
none_then place [] j none empty = ap (λ b. cond b None (Some (place, lowest j.reasons))) empty
none_then place (i ∷ js) j none empty = by (is_empty i.reasons) (λ none. none_then (place + 1) js j none empty) none
  where
    by : (b : Bool) → (first_reason (place + 1) js ≡ None → first_reason (place + 1) (js ++ j ∷ []) ≡ None) → cond b (first_reason (place + 1) js) (Some (place, lowest i.reasons)) ≡ None
        → cond b (first_reason (place + 1) (js ++ j ∷ [])) (Some (place, lowest i.reasons)) ≡ None
    by true later none = later none
    by false later none = absurd (cc none)

-- ---- a history

pub goes_on : (opening : Opening) (c : ℕ) (events : List Event) (event : Event) → not_alone opening c events ≡ None → is_empty (next_judged opening c events event).reasons ≡ true → GoesOn opening c events event
goes_on opening c events event none empty =
    let all = judged_from c (opened opening) unseen events in
    let j = next_judged opening c events event in
    let then = judged_then c (opened opening) unseen events (event ∷ []) in
    let seen = seen_then c (opened opening) unseen events event in
    let items : with_step (steps_of all) j.items ≡ steps_of (judged_from c (opened opening) unseen (events ++ event ∷ [])) = sym (step_then all j) ∙ ap steps_of (sym then) in
    record {
      watched = λ i. record { session = c; seen = sym seen i; items = items i };
      alone = ap (first_reason 1) then ∙ none_then 1 all j none empty;
    }

pub ends : (opening : Opening) (c : ℕ) (events : List Event) (event : Event) → not_alone opening c events ≡ None → is_empty (next_judged opening c events event).reasons ≡ false → Ends opening c events event
ends opening c events event none some = λ more.
    let all = judged_from c (opened opening) unseen events in
    let j = next_judged opening c events event in
    let count : 1 + length all ≡ length events + 1 = omega (arith, judged_long c (opened opening) unseen events) in
    ap (first_reason 1) (judged_then c (opened opening) unseen events (event ∷ more))
    ∙ reason_then 1 all j _ none some
    ∙ λ i. Some (count i, lowest j.reasons)

pub shows : (opening : Opening) (c : ℕ) (events : List Event) (entry : Entry) (did : Did) → ShowsTheSame opening c events entry did
shows opening c events entry did = λ next. λ i. judged_by c (seen_from c (opened opening) unseen events) (next.uses_are i) (next.notes_are i) (next.replies_are i) (marked entry.event did.short)
