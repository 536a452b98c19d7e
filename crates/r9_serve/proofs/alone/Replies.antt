-- Replies to one session.
use Rattle.std.proofs.Common.{◌≡◌, ◌==◌, ℕ, Bool, true, false, cond, List, [], ◌∷◌, ◌++◌, All, filter, map, None, refl, sym, ap, subst, ◌∙◌}
use Rattle.std.proofs.lemmas.Bool.{eqb-true}
use Rattle.r9_event.specs.declared.event.event.Event.{Event}
use Rattle.r9_event.specs.declared.event.event.Opening.{Opening}
use Rattle.r9_event.specs.declared.event.event.Reply.{Reply}
use Rattle.r9_event.specs.declared.event.own.Item.{Item}
use Rattle.model_history.specs.event.Legal.{IsLegal}
use Rattle.model_history.specs.records.Record.{IsRecord}
use Rattle.model_world.specs.Replay.{replies}
use Rattle.model_alone.specs.alone.Isolated.{replies_to}
use Rattle.model_alone.specs.alone.Lone.{lone}
use Rattle.model_alone.specs.alone.Own.{not_alone, own}
use Rattle.law_isolation.proofs.alone_law.Law.{all_isolated}
use Rattle.law_strangers.specs.near.Steps.{IsSoundStep}
use Rattle.law_strangers.proofs.near.Histories.{own_sound}
use Rattle.r9_isol.specs.watch.Watching.{Watching}
use Rattle.r9_serve.specs.alone.Answers.{replies_as}
use Rattle.r9_serve.specs.alone.Texts.{AreLoneRepliesTo}
use Rattle.r9_serve.specs.alone.Watched.{IsWatchedIn}

pub as_push : (c : ℕ) (some : List (List ℕ)) (bytes : List ℕ) → replies_as c (some ++ bytes ∷ []) ≡ replies_as c some ++ record { session = c; bytes = bytes } ∷ []
as_push c [] bytes = refl
as_push c (first ∷ some) bytes = ap (λ (rs : List Reply). (let made : Reply = record { session = c; bytes = first } in made ∷ rs)) (as_push c some bytes)

-- the replies to a session are those of its number
its_replies : (c : ℕ) (all : List Reply) → replies_as c (replies_to c all) ≡ filter (λ reply. reply.session == c) all
its_replies c [] = refl
its_replies c (reply ∷ all) = by (reply.session == c) refl (its_replies c all)
  where
    by : (b : Bool) → reply.session == c ≡ b → replies_as c (replies_to c all) ≡ filter (λ reply. reply.session == c) all
        → replies_as c (map (λ (r : Reply). r.bytes) (cond b (reply ∷ filter (λ reply. reply.session == c) all) (filter (λ reply. reply.session == c) all))) ≡ cond b (reply ∷ filter (λ reply. reply.session == c) all) (filter (λ reply. reply.session == c) all)
    by true its rest =
        let number : c ≡ reply.session = sym (eqb-true reply.session c its) in
        λ i. (let made : Reply = record { session = number i; bytes = reply.bytes } in made ∷ rest i)
    by false other rest = rest

-- what a world of the session's own gives is what it gets in the history
pub are_lone_replies : (opening : Opening) (c : ℕ) (events : List Event) (given : List Reply) → IsLegal events → not_alone opening c events ≡ None
    → given ≡ replies_as c (lone opening (own opening c events)) → given ≡ filter (λ reply. reply.session == c) (replies opening events)
are_lone_replies opening c events given legal alone are =
    are ∙ ap (replies_as c) (sym (all_isolated opening c events legal alone)) ∙ its_replies c (replies opening events)

-- what the watch of a whole legal history was told may be answered
pub told_sound : (opening : Opening) (c : ℕ) (events : List Event) (watch : Watching) (items : List (List Item)) → IsLegal events → IsWatchedIn opening c events watch → items ≡ watch.items → All IsSoundStep items
told_sound opening c events watch items legal watched is =
    subst (All IsSoundStep) (sym (is ∙ ap (λ (w : Watching). w.items) watched.watch_is)) (own_sound opening c events legal)

-- the replies to what the watch of a whole legal history was told
pub are_replies_to : (opening : Opening) (c : ℕ) (text : List ℕ) (events : List Event) (watch : Watching) (items : List (List Item)) (given : List Reply) → IsRecord text events → ((others : List Event) → IsRecord text others → events ≡ others)
    → IsWatchedIn opening c events watch → items ≡ watch.items → given ≡ replies_as c (lone opening items) → AreLoneRepliesTo opening c text given
are_replies_to opening c text events watch items given is_record one watched is are =
    let told : given ≡ replies_as c (lone opening (own opening c events)) =
    are ∙ ap (λ (steps : List (List Item)). replies_as c (lone opening steps)) (is ∙ ap (λ (w : Watching). w.items) watched.watch_is) in
    record {
      events = events;
      is_record = is_record;
      one = one;
      alone = watched.alone;
      are_lone = told;
      are_its = are_lone_replies opening c events given is_record.legal watched.alone told;
    }
