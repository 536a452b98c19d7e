-- The server that sessions see: what the world of a history is to one of them.
use Rattle.std.specs.Prelude.{ℕ, ◌==◌, min, nat_lt, List, [], ◌∷◌, length, Option, Some, None, if◌then◌else◌}
use Rattle.std.specs.Option.{option_map_or}
use Rattle.r9_event.specs.declared.event.event.Event.{Event}
use Rattle.r9_event.specs.declared.event.event.Event.TheVariants.{Msg}
use Rattle.r9_event.specs.declared.event.event.Opening.{Opening}
use Rattle.model_files.specs.wire.Message.{T, Tversion}
use Rattle.model_files.specs.wire.Reading.{message_of}
use Rattle.model_history.specs.event.Journal.{Journal}
use Rattle.model_served.specs.session.Server.{Server}
use Rattle.model_world.specs.Session.{max_msize}
use Rattle.model_world.specs.Answer.{asks_for_9p}
use Rattle.model_world.specs.World.{World, opened}
use Rattle.model_world.specs.Cut.{IsCutEvent}
use Rattle.model_world.specs.Replay.{step, replay, replies, bytes_for, outbox}

-- ---- the greatest size of a session's next message, by its messages so far (version(5))

-- a Tversion that is not refused sets it
abbrev pub size_agreed : (msize : ℕ) → T → ℕ
size_agreed msize (Tversion tag asked version) =
    if nat_lt asked 256 then msize
    else if asks_for_9p version then min asked max_msize
    else max_msize
size_agreed msize _ = msize

-- a message that is longer is not looked at
abbrev pub size_after : (msize : ℕ) → (bytes : List ℕ) → ℕ
size_after msize bytes = if nat_lt msize (length bytes) then msize else option_map_or (size_agreed msize) (message_of bytes) msize

abbrev pub size_from : (msize : ℕ) → (messages : List (List ℕ)) → ℕ
size_from msize [] = msize
size_from msize (bytes ∷ messages) = size_from (size_after msize bytes) messages

-- ---- the tag by which a session was closed: the first that closed it

abbrev pub closing : (c : ℕ) → Event → (closed : Option ℕ) → Option ℕ
closing c (Msg d bytes mark) closed = if d == c then closed else None
closing c _ closed = None

abbrev pub first_of : Option ℕ → Option ℕ → Option ℕ
first_of None later = later
first_of (Some tag) later = Some tag

abbrev pub closed_from : World → List Event → (c : ℕ) → Option ℕ → Option ℕ
closed_from world [] c closed = closed
closed_from world (event ∷ events) c closed =
    closed_from (step world event).world events c (first_of closed (closing c event (step world event).closed))

-- ---- the server

abbrev pub journal_of : Opening → List Event → Journal
journal_of opening events = record { opening = opening; events = events }

abbrev pub served : Opening → Server
served opening = record {
  limit = λ messages. size_from max_msize messages;
  replied = λ events c. bytes_for c (replies opening events);
  outbox = λ events c. outbox (journal_of opening events) c;
  closed = λ events c. closed_from (opened opening) events c None;
  cut = λ events c bytes k. IsCutEvent (replay opening events) (Msg c bytes None) k;
}
