-- The queue, said of the whole list of what happened.
use Rattle.std.proofs.Common.{◌≡◌, ℕ, ◌≤◌, ◌-◌, Bool, true, false, cond, eqb, List, [], ◌∷◌, ◌++◌, length, take, drop, Option, Some, None, refl, sym, ap, ◌∙◌, subst, arith, append_assoc, append-nil, length-drop, slice_get}
use Rattle.std.proofs.lemmas.List.{take-append-drop}
use Rattle.std.proofs.lemmas.List.Sums.{fold-append}
use Rattle.std.specs.List.{fold, filter_map, last_or}
use Rattle.std.specs.Option.{unwrap_or}
use Rattle.model_files.specs.declared.mouse.Mouse.{Mouse}
use Rattle.model_files.specs.mouse.Queue.{Queue, no_event, no_events, last_of, fed, resized, answered, next}
use Rattle.model_files.specs.mouse.Happening.{Happening, Event, Image, Answer, happened, queue_after, event_in, last_of_all, clicks_among, clicks_of, EndsIn}

pub goes_on : (before : List Happening) (now : Happening) → queue_after (before ++ now ∷ []) ≡ happened (queue_after before) now
unfolding queue_after
goes_on before now = fold-append happened no_events before (now ∷ [])

-- ---- ends of lists

grown : {A : Type 0} (whole end : List A) (x : A) → EndsIn whole end → EndsIn (whole ++ x ∷ []) (end ++ x ∷ [])
grown whole end x e = (e.0, ap (λ xs. xs ++ x ∷ []) e.1 ∙ append_assoc e.0 end (x ∷ []))

cut : {A : Type 0} (n : ℕ) (whole end : List A) → EndsIn whole end → EndsIn whole (drop n end)
cut n whole end e =
    (e.0 ++ take n end, e.1 ∙ ap (λ xs. e.0 ++ xs) (sym (take-append-drop n end)) ∙ sym (append_assoc e.0 (take n end) (drop n end)))

-- ---- what each step keeps, whatever came before it

-- the clicks stand at the end of `all`, and are few
record Holds (all : List Mouse) (q : Queue) : Type 0 where
  latest : EndsIn all q.clicks
  few : length q.clicks ≤ 16

-- all clicks after one more event
with_event : List Mouse → Mouse → Mouse → List Mouse
with_event all before e = cond (eqb e.buttons before.buttons) all (all ++ e ∷ [])

fed-holds : (b : Bool) (all : List Mouse) (e : Mouse) (q : Queue) → Holds all q
    → Holds (cond b all (all ++ e ∷ [])) (cond b (record q { move = Some e; last = e }) (record q { clicks = last_of 16 (q.clicks ++ e ∷ []); move = None; last = e }))
fed-holds true all e q h = record { latest = h.latest; few = h.few }
fed-holds false all e q h = record {
  latest = cut (length (q.clicks ++ e ∷ []) - 16) _ _ (grown all q.clicks e h.latest);
  few = omega (arith, length-drop (length (q.clicks ++ e ∷ []) - 16) (q.clicks ++ e ∷ []));
}

fed-last : (b : Bool) (e : Mouse) (q : Queue) → (cond b (record q { move = Some e; last = e }) (record q { clicks = last_of 16 (q.clicks ++ e ∷ []); move = None; last = e })).last ≡ e
fed-last true e q = refl
fed-last false e q = refl

event-last : (e : Mouse) (q : Queue) → (fed e q).last ≡ e
unfolding fed
event-last e q = fed-last _ e q

answered-holds : (all : List Mouse) (q : Queue) → Holds all q → Holds all (answered q)
unfolding answered
answered-holds all q h = by_clicks q.clicks q.move q.last q.changed h.latest h.few
  where
    by_clicks : (clicks : List Mouse) (move : Option Mouse) (last : Mouse) (changed : Bool) → EndsIn all clicks → length clicks ≤ 16 → Holds all (answered (record { clicks = clicks; move = move; last = last; changed = changed }))
    by_clicks [] move last changed latest few = record { latest = latest; few = few }
    by_clicks (e ∷ clicks) move last changed latest few = record { latest = cut 1 all (e ∷ clicks) latest; few = omega arith }

answered-last : (q : Queue) → (answered q).last ≡ q.last
unfolding answered
answered-last q = by_clicks q.clicks q.move q.last q.changed
  where
    by_clicks : (clicks : List Mouse) (move : Option Mouse) (last : Mouse) (changed : Bool) → (answered (record { clicks = clicks; move = move; last = last; changed = changed })).last ≡ last
    by_clicks [] move last changed = refl
    by_clicks (e ∷ clicks) move last changed = refl

-- ---- the whole list

one_more : (b : Bool) (all es : List Mouse) (e : Mouse) → cond b all (all ++ e ∷ []) ++ es ≡ all ++ cond b es (e ∷ es)
one_more true all es e = refl
one_more false all es e = append_assoc all (e ∷ []) es

after-holds : (hs : List Happening) (all : List Mouse) (q : Queue) → Holds all q → Holds (all ++ clicks_among q.last (filter_map event_in hs)) (fold happened q hs)
after-holds [] all q h = subst (λ (xs : List Mouse). Holds xs q) (sym (append-nil all)) h
after-holds (Event e ∷ hs) all q h =
    let step : Holds (cond (eqb e.buttons q.last.buttons) all (all ++ e ∷ [])) (fed e q) = unfold fed in fed-holds _ all e q h in
    let rest = after-holds hs (cond (eqb e.buttons q.last.buttons) all (all ++ e ∷ [])) (fed e q) step in
    let named = subst (λ (m : Mouse). Holds (cond (eqb e.buttons q.last.buttons) all (all ++ e ∷ []) ++ clicks_among m (filter_map event_in hs)) (fold happened (fed e q) hs)) (event-last e q) rest in
    subst (λ (xs : List Mouse). Holds xs (fold happened (fed e q) hs)) (one_more (eqb e.buttons q.last.buttons) all (clicks_among e (filter_map event_in hs)) e) named
after-holds (Image ∷ hs) all q h = after-holds hs all (resized q) (record { latest = h.latest; few = h.few })
after-holds (Answer ∷ hs) all q h =
    subst (λ (m : Mouse). Holds (all ++ clicks_among m (filter_map event_in hs)) (fold happened (answered q) hs)) (answered-last q)
    (after-holds hs all (answered q) (answered-holds all q h))

after-last : (hs : List Happening) (q : Queue) → (fold happened q hs).last ≡ unwrap_or (last_or (Some q.last) (filter_map event_in hs)) no_event
after-last [] q = refl
after-last (Event e ∷ hs) q =
    after-last hs (fed e q) ∙ ap (λ (m : Mouse). unwrap_or (last_or (Some m) (filter_map event_in hs)) no_event) (event-last e q)
after-last (Image ∷ hs) q = after-last hs (resized q)
after-last (Answer ∷ hs) q =
    after-last hs (answered q) ∙ ap (λ (m : Mouse). unwrap_or (last_or (Some m) (filter_map event_in hs)) no_event) (answered-last q)

whole : (hs : List Happening) → Holds (clicks_of hs) (queue_after hs)
unfolding queue_after
whole hs = after-holds hs [] no_events (record { latest = ([], refl); few = omega arith })

pub few : (hs : List Happening) → length (queue_after hs).clicks ≤ 16
few hs = (whole hs).few

pub latest : (hs : List Happening) → EndsIn (clicks_of hs) (queue_after hs).clicks
latest hs = (whole hs).latest

first_or_none : (es : List Mouse) → unwrap_or (last_or (Some no_event) es) no_event ≡ unwrap_or (last_or None es) no_event
first_or_none [] = refl
first_or_none (e ∷ es) = refl

pub last : (hs : List Happening) → (queue_after hs).last ≡ last_of_all hs
unfolding queue_after
last hs = after-last hs no_events ∙ first_or_none (filter_map event_in hs)

pub oldest : (q : Queue) (e : Mouse) → slice_get q.clicks 0 ≡ Some e → next q.clicks q.move q ≡ Some e
oldest q e = by_clicks q.clicks
  where
    by_clicks : (clicks : List Mouse) → slice_get clicks 0 ≡ Some e → next clicks q.move q ≡ Some e
    by_clicks [] given = absurd (cc given)
    by_clicks (first ∷ clicks) given = cc
