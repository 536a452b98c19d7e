-- A history and one event more, and what holds of all histories.
use Rattle.std.proofs.Common.{◌≡◌, ℕ, List, [], ◌∷◌, ◌++◌, Option, refl, sym, ap, subst, ◌∙◌, append_assoc, append-nil}
use Rattle.std.specs.Prelude.{filter, ◌==◌}
use Rattle.std.specs.List.{flat_map}
use Rattle.std.proofs.lemmas.List.Concat.{flat_map-append}
use Rattle.std.proofs.lemmas.List.Elements.{filter-append}
use Rattle.r9_event.specs.declared.event.event.Event.{Event}
use Rattle.r9_event.specs.declared.event.event.Reply.{Reply}
use Rattle.model_history.specs.event.Legal.{Roll, Allowed, AllowedFrom, IsLegal, no_sessions, roll_after, roll_from, roll_of}
use Rattle.model_served.specs.session.Server.{Server, handed, message_in, messages_of, takes_from}
use Rattle.model_world.specs.World.{World}
use Rattle.model_world.specs.Replay.{bytes_for, replies_from, step, world_from}
use Rattle.model_world.proofs.Flushed.{append_one}
use Rattle.model_served.specs.served.Served.{closed_from, closing, first_of, size_after, size_from}

-- ---- what holds of the empty history, and of one event more, holds of each

events_onward : (P : List Event → Type 0) → ((events : List Event) (event : Event) → P events → P (events ++ event ∷ [])) → (before events : List Event) → P before → P (before ++ events)
events_onward P more before [] is = subst P (sym (append-nil before)) is
events_onward P more before (event ∷ events) is = subst P (append_one before events event) (events_onward P more (before ++ event ∷ []) events (more before event is))

pub by_events : (P : List Event → Type 0) → P [] → ((events : List Event) (event : Event) → P events → P (events ++ event ∷ [])) → (events : List Event) → P events
by_events P none more events = events_onward P more [] events none

pub allowed-before : (roll : Roll) (events : List Event) (event : Event) → AllowedFrom roll (events ++ event ∷ []) → AllowedFrom roll events × Allowed (roll_from roll events) event
allowed-before roll [] event legal = (tt, legal.0)
allowed-before roll (e ∷ events) event legal = let more = allowed-before (roll_after roll e) events event legal.1 in ((legal.0, more.0), more.1)

-- the same of those that are legal
pub by_history : (P : List Event → Type 0) → P [] → ((events : List Event) (event : Event) → IsLegal events → Allowed (roll_of events) event → P events → P (events ++ event ∷ []))
    → (events : List Event) → IsLegal events → P events
by_history P none more = by_events (λ events. IsLegal events → P events) (λ _. none) (λ events event is legal.
    let before = allowed-before no_sessions events event legal in more events event before.0 before.1 (is before.0))

-- ---- one event more

pub replies_from-push : (world : World) (events : List Event) (event : Event) → replies_from world (events ++ event ∷ []) ≡ replies_from world events ++ (step (world_from world events) event).replies
replies_from-push world [] event = append-nil (step world event).replies
replies_from-push world (e ∷ events) event =
    let next = (step world e).world in
    ap (λ (more : List Reply). (step world e).replies ++ more) (replies_from-push next events event)
    ∙ sym (append_assoc (step world e).replies (replies_from next events) (step (world_from next events) event).replies)

pub bytes_for-append : (c : ℕ) (before after : List Reply) → bytes_for c (before ++ after) ≡ bytes_for c before ++ bytes_for c after
bytes_for-append c before after =
    let own = λ (all : List Reply). filter (λ reply. reply.session == c) all in
    ap (λ (all : List Reply). flat_map (λ reply. reply.bytes) all) (filter-append (λ reply. reply.session == c) before after)
    ∙ flat_map-append (λ (reply : Reply). reply.bytes) (own before) (own after)

pub takes_from-push : (s : Server) (c : ℕ) (before events : List Event) (event : Event) → takes_from s c before (events ++ event ∷ []) ≡ takes_from s c before events ++ handed s c (before ++ events) event
takes_from-push s c before [] event = append-nil (handed s c before event) ∙ ap (λ (all : List Event). handed s c all event) (sym (append-nil before))
takes_from-push s c before (e ∷ events) event =
    let next = before ++ e ∷ [] in
    ap (λ (more : List ℕ). handed s c before e ++ more) (takes_from-push s c next events event)
    ∙ sym (append_assoc (handed s c before e) (takes_from s c next events) (handed s c (next ++ events) event))
    ∙ ap (λ (all : List Event). (handed s c before e ++ takes_from s c next events) ++ handed s c all event) (append_one before events e)

pub messages_of-push : (c : ℕ) (events : List Event) (event : Event) → messages_of c (events ++ event ∷ []) ≡ messages_of c events ++ message_in c event
messages_of-push c events event =
    flat_map-append (message_in c) events (event ∷ []) ∙ ap (λ (more : List (List ℕ)). messages_of c events ++ more) (append-nil (message_in c event))

pub closed_from-push : (world : World) (events : List Event) (event : Event) (c : ℕ) (closed : Option ℕ)
    → closed_from world (events ++ event ∷ []) c closed ≡ first_of (closed_from world events c closed) (closing c event (step (world_from world events) event).closed)
closed_from-push world [] event c closed = refl
closed_from-push world (e ∷ events) event c closed = closed_from-push (step world e).world events event c (first_of closed (closing c e (step world e).closed))

pub size_from-push : (msize : ℕ) (messages : List (List ℕ)) (bytes : List ℕ) → size_from msize (messages ++ bytes ∷ []) ≡ size_after (size_from msize messages) bytes
size_from-push msize [] bytes = refl
size_from-push msize (m ∷ messages) bytes = size_from-push (size_after msize m) messages bytes
