-- What sessions see of the world of a history is a server.
use Rattle.std.proofs.Common.{◌≡◌, ◌≤◌, ℕ, Bool, true, false, min, List, [], ◌∷◌, ◌++◌, length, Option, Some, None, refl, sym, ap, subst, ◌∙◌, inl, inr, arith, append_assoc, append-nil}
use Rattle.std.specs.Prelude.{IsSome, is_some, nat_lt, ◌==◌, if◌then◌else◌}
use Rattle.std.specs.Option.{option_map_or}
use Rattle.r9_event.specs.declared.event.event.Event.{Event}
use Rattle.r9_event.specs.declared.event.event.Event.TheVariants.{Begin, Msg, Take, End, Stop}
use Rattle.r9_event.specs.declared.event.event.Opening.{Opening}
use Rattle.model_text.specs.text.Map.{lookup}
use Rattle.model_files.specs.wire.Message.{T, Tversion, Tauth, Tattach, Tflush, Twalk, Topen, Tcreate, Tread, Twrite, Tclunk, Tremove, Tstat, Twstat}
use Rattle.model_files.specs.wire.Reading.{message_of}
use Rattle.model_history.specs.event.Legal.{IsLegal, no_sessions}
use Rattle.model_served.specs.session.Server.{IsOver, IsServer, Server, handed, takes}
use Rattle.model_world.specs.Session.{Session, max_msize}
use Rattle.model_world.specs.Answer.{asks_for_9p}
use Rattle.model_world.specs.World.{World, opened}
use Rattle.model_world.specs.Replay.{bytes_for, outbox, replay, replies, step, waiting_after}
use Rattle.model_world.proofs.Histories.{waiting_from-push}
use Rattle.model_world.proofs.Closed.{history_emptied}
use Rattle.model_served.specs.served.Served.{closed_from, closing, first_of, journal_of, served, size_after, size_agreed, size_from}
use Rattle.model_served.proofs.served.Pushed.{allowed-before, by_events, bytes_for-append, closed_from-push, replies_from-push, takes_from-push}
use Rattle.model_served.proofs.served.Rolls.{ended_begun}
use Rattle.model_served.proofs.served.Seen.{history_order}
use Rattle.model_served.proofs.served.Silent.{IsMute, step_mute}
use Rattle.model_served.proofs.served.Kept.{kept_closed, live_there, same_closed}

-- ---- the size of a message

agreed_within : (asked msize : ℕ) (short ours : Bool) → msize ≤ 65560 → (if short then msize else if ours then min asked max_msize else max_msize) ≤ 65560
agreed_within asked msize true ours within = within
agreed_within asked msize false true within = omega arith
agreed_within asked msize false false within = omega arith

message_within : (msize : ℕ) (m : T) → msize ≤ 65560 → size_agreed msize m ≤ 65560
message_within msize (Tversion tag asked version) within = agreed_within asked msize (nat_lt asked 256) (asks_for_9p version) within
message_within msize (Tauth tag afid uname aname) within = within
message_within msize (Tattach tag fid afid uname aname) within = within
message_within msize (Tflush tag oldtag) within = within
message_within msize (Twalk tag fid newfid names) within = within
message_within msize (Topen tag fid mode) within = within
message_within msize (Tcreate tag fid name perm mode) within = within
message_within msize (Tread tag fid offset count) within = within
message_within msize (Twrite tag fid offset bytes) within = within
message_within msize (Tclunk tag fid) within = within
message_within msize (Tremove tag fid) within = within
message_within msize (Tstat tag fid) within = within
message_within msize (Twstat tag fid stat) within = within

bytes_within : (msize : ℕ) (long : Bool) (o : Option T) → msize ≤ 65560 → (if long then msize else option_map_or (size_agreed msize) o msize) ≤ 65560
bytes_within msize true o within = within
bytes_within msize false None within = within
bytes_within msize false (Some m) within = message_within msize m within

size_within : (msize : ℕ) (messages : List (List ℕ)) → msize ≤ 65560 → size_from msize messages ≤ 65560
size_within msize [] within = within
size_within msize (bytes ∷ messages) within = size_within (size_after msize bytes) messages (bytes_within msize (nat_lt msize (length bytes)) (message_of bytes) within)

-- ---- replies were handed out, or wait

-- what an event hands out and what waits then, of what waited and what it replies
handed_or_waits : (s : Server) (c : ℕ) (world : World) (events : List Event) (event : Event) (waiting : List ℕ) → s.outbox events c ≡ waiting
    → waiting ++ bytes_for c (step world event).replies ≡ handed s c events event ++ waiting_after c waiting event (step world event).replies
handed_or_waits s c world events (Begin d) waiting is = refl
handed_or_waits s c world events (Msg d bytes mark) waiting is = refl
handed_or_waits s c world events (Take d) waiting is = append-nil waiting ∙ by (d == c)
  where
    by : (b : Bool) → waiting ≡ (if b then s.outbox events c else []) ++ (if b then [] else waiting)
    by true = sym (append-nil (s.outbox events c) ∙ is)
    by false = refl
handed_or_waits s c world events (End d) waiting is = refl
handed_or_waits s c world events Stop waiting is = refl

abbrev AllTold : Opening → (c : ℕ) → List Event → Type 0
AllTold opening c events = bytes_for c (replies opening events) ≡ takes (served opening) c events ++ outbox (journal_of opening events) c

all_after : (opening : Opening) (c : ℕ) (events : List Event) (event : Event) → AllTold opening c events → AllTold opening c (events ++ event ∷ [])
all_after opening c events event told =
    let s = served opening in
    let more = (step (replay opening events) event).replies in
    let waiting = outbox (journal_of opening events) c in
    let before = takes s c events in
    ap (λ all. bytes_for c all) (replies_from-push (opened opening) events event)
    ∙ bytes_for-append c (replies opening events) more
    ∙ ap (λ (bytes : List ℕ). bytes ++ bytes_for c more) told
    ∙ append_assoc before waiting (bytes_for c more)
    ∙ ap (λ (bytes : List ℕ). before ++ bytes) (handed_or_waits s c (replay opening events) events event waiting refl)
    ∙ sym (append_assoc before (handed s c events event) (waiting_after c waiting event more))
    ∙ ap (λ (bytes : List ℕ). bytes ++ waiting_after c waiting event more) (sym (takes_from-push s c [] events event))
    ∙ ap (λ (bytes : List ℕ). takes s c (events ++ event ∷ []) ++ bytes) (sym (waiting_from-push (opened opening) events event c []))

all_told : (opening : Opening) (events : List Event) (c : ℕ) → AllTold opening c events
all_told opening events c = by_events (AllTold opening c) refl (all_after opening c) events

-- ---- closed sessions

stays_closed : (opening : Opening) (events : List Event) (event : Event) (c tag : ℕ) → closed_from (opened opening) events c None ≡ Some tag → closed_from (opened opening) (events ++ event ∷ []) c None ≡ Some tag
stays_closed opening events event c tag at = closed_from-push (opened opening) events event c None ∙ ap (λ (o : Option ℕ). first_of o (closing c event (step (replay opening events) event).closed)) at

over_mute : (opening : Opening) (events : List Event) (c : ℕ) → IsLegal events → IsOver (served opening) events c → IsMute (lookup (replay opening events).sessions c)
over_mute opening events c legal (inl ended) = by (lookup (replay opening events).sessions c) refl
  where
    by : (o : Option Session) → lookup (replay opening events).sessions c ≡ o → IsMute o
    by None at = tt
    by (Some session) at = absurd (((ended_begun events c legal).0 ended).2 ((live_there opening events c legal).1 (subst (λ (o : Option Session). IsSome o) (sym at) refl)))
over_mute opening events c legal (inr closed) = by (lookup (replay opening events).sessions c) refl
  where
    by : (o : Option Session) → lookup (replay opening events).sessions c ≡ o → IsMute o
    by None at = tt
    by (Some session) at =
        let shut : is_some session.closed ≡ true = ap (λ (o : Option ℕ). is_some o) (kept_closed opening events c session legal at ∙ closed.1) in
        (shut, (history_emptied opening events c session at shut).1)

over_quiet : (opening : Opening) (events : List Event) (event : Event) (c : ℕ) → IsLegal (events ++ event ∷ []) → IsOver (served opening) events c
    → bytes_for c (replies opening (events ++ event ∷ [])) ≡ bytes_for c (replies opening events)
over_quiet opening events event c legal over =
    let more = (step (replay opening events) event).replies in
    ap (λ all. bytes_for c all) (replies_from-push (opened opening) events event)
    ∙ bytes_for-append c (replies opening events) more
    ∙ ap (λ (bytes : List ℕ). bytes_for c (replies opening events) ++ bytes)
    (step_mute c (replay opening events) event (history_order opening events) (over_mute opening events c (allowed-before no_sessions events event legal).0 over))
    ∙ append-nil (bytes_for c (replies opening events))

-- ---- all of it

pub is_server : (opening : Opening) → IsServer (served opening)
is_server opening = record {
  limited = λ messages. size_within max_msize messages (omega arith);
  first_limit = refl;
  all = all_told opening;
  open_first = λ c. refl;
  kept = λ events event c none. same_closed (opened opening) events event c none;
  stays = stays_closed opening;
  quiet = over_quiet opening;
}
