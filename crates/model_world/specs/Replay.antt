-- What a history leaves and what it answers.
use Rattle.std.specs.Prelude.{ℕ, zero, suc, ◌==◌, ◌+◌, List, [], ◌∷◌, ◌++◌, length, Option, Some, None, filter, if◌then◌else◌}
use Rattle.std.specs.List.{flat_map, sum_by}
use Rattle.std.specs.Option.{option_map_or}
use Rattle.r9_event.specs.declared.event.event.Event.{Event}
use Rattle.r9_event.specs.declared.event.event.Event.TheVariants.{Begin, Msg, Take, End, Stop}
use Rattle.r9_event.specs.declared.event.event.Opening.{Opening}
use Rattle.r9_event.specs.declared.event.event.Reply.{Reply}
use Rattle.r9_event.specs.declared.event.rio.Note.{Note}
use Rattle.model_files.specs.wire.Message.{R}
use Rattle.model_files.specs.wire.Reading.{tag_of}
use Rattle.model_files.specs.wire.Spelling.{spelling_of_r}
use Rattle.model_history.specs.event.Journal.{Journal}
use Rattle.model_text.specs.text.Map.{lookup, with, and, without}
use Rattle.model_world.specs.Session.{Session, fresh}
use Rattle.model_world.specs.Fids.{Left, cleared}
use Rattle.model_world.specs.Answer.{answer, Taking, Closes, taking}
use Rattle.model_world.specs.Waiting.{one_answered}
use Rattle.model_world.specs.Desktop.{Desktop}
use Rattle.model_world.specs.Whole.{desktop_for}
use Rattle.model_world.specs.World.{World, opened}

-- The world after an event, the replies to it in their order, what the windows were told, the tag by which it closed its session, and
-- what all that it asked of the draw device costs: the most pixels that it may write.
pub record Turn : Type 0 where
  pub world : World
  pub replies : List Reply
  pub notes : List (ℕ × Note)
  pub closed : Option ℕ
  pub cost : ℕ

-- the turn ends: what was told in it is told
abbrev pub turned : World → List Reply → Option ℕ → Turn
turned world replies closed = record {
  world = record world { desktop = record world.desktop { notes = []; cost = 0 } };
  replies = replies;
  notes = world.desktop.notes;
  closed = closed;
  cost = world.desktop.cost;
}

abbrev pub silent : World → Turn
silent world = turned world [] None

-- ---- reads that wait

abbrev pub reply_to : (c : ℕ) → Option R → List Reply
reply_to c None = []
reply_to c (Some reply) = record { session = c; bytes = spelling_of_r reply } ∷ []

-- the world with what a session left
abbrev pub with_left : World → (c : ℕ) → Left Desktop → World
with_left world c after = record world { desktop = after.rest; sessions = with world.sessions c after.session }

abbrev pub answered_in : World → (c : ℕ) → Option (Left Desktop) → (later : Option (World × List Reply)) → Option (World × List Reply)
answered_in world c None later = later
answered_in world c (Some after) later = Some (with_left world c after, reply_to c after.reply)

-- of these sessions the first that has a read that can be answered
abbrev pub first_answered : World → (sessions : List (ℕ × Session)) → Option (World × List Reply)
first_answered world [] = None
first_answered world ((c, session) ∷ sessions) =
    answered_in world c (one_answered (desktop_for c) session world.desktop) (first_answered world sessions)

abbrev pub and_replies : List Reply → World × List Reply → World × List Reply
and_replies replies more = (more.0, replies ++ more.1)

-- Reads that wait are answered, each time the earliest of the lowest session that has one that can be, so often at most.
unfoldable pub settled_within : (most : ℕ) → World → World × List Reply
settled_within zero world = (world, [])
settled_within (suc most) world =
    option_map_or (λ next. and_replies next.1 (settled_within most next.0)) (first_answered world world.sessions) (world, [])

-- how many reads wait
abbrev pub waiting_in : World → ℕ
waiting_in world = sum_by (λ entry. length entry.1.waiting) world.sessions

-- until none can be answered any more
abbrev pub settled : World → World × List Reply
settled world = settled_within (waiting_in world) world

-- an event has made this of the world and has these replies; then come those to reads that waited
abbrev pub settled_after : World → List Reply → Option ℕ → Turn
settled_after world replies closed = turned (settled world).0 (replies ++ (settled world).1) closed

-- ---- events

-- the tag by which the bytes of a message close their session
abbrev pub closing_tag : List ℕ → Taking → Option ℕ
closing_tag bytes Closes = Some (tag_of bytes)
closing_tag bytes _ = None

-- a message is answered by its session, if it lives
abbrev pub served : World → ℕ → List ℕ → Option ℕ → Option Session → Turn
served world c bytes mark None = silent world
served world c bytes mark (Some session) =
    let after = answer (desktop_for c) session world.desktop bytes mark in
    settled_after (with_left world c after) (reply_to c after.reply) (closing_tag bytes (taking session bytes))

-- a session ends, and all that goes with its fids
abbrev pub ended : World → ℕ → Option Session → Turn
ended world c None = silent world
ended world c (Some session) = settled_after (record world {
  desktop = (cleared (desktop_for c) session world.desktop).1;
  sessions = without world.sessions c;
}) [] None

-- One turn of the server.
abbrev pub step : World → Event → Turn
step world (Begin c) = silent (record world { sessions = and world.sessions c fresh })
step world (Msg c bytes mark) = served world c bytes mark (lookup world.sessions c)
step world (Take c) = silent world
step world (End c) = ended world c (lookup world.sessions c)
step world Stop = silent world

abbrev pub world_from : World → List Event → World
world_from world [] = world
world_from world (event ∷ events) = world_from (step world event).world events

abbrev pub replies_from : World → List Event → List Reply
replies_from world [] = []
replies_from world (event ∷ events) = (step world event).replies ++ replies_from (step world event).world events

-- what the events of a history cost, one after the other
abbrev pub costs_from : World → List Event → ℕ
costs_from world [] = 0
costs_from world (event ∷ events) = (step world event).cost + costs_from (step world event).world events

-- the state after a history
abbrev pub replay : Opening → List Event → World
replay opening events = world_from (opened opening) events

-- all replies to a history, in order
abbrev pub replies : Opening → List Event → List Reply
replies opening events = replies_from (opened opening) events

-- what a whole history costs
abbrev pub costs : Opening → List Event → ℕ
costs opening events = costs_from (opened opening) events

-- the world in which a journal ends
abbrev pub world_at : Journal → World
world_at journal = replay journal.opening journal.events

-- ---- marks

-- the event as a history has it: with the mark where memory ran out in its data write
abbrev pub with_mark : Event → ℕ → Event
with_mark (Msg c bytes mark) k = Msg c bytes (Some k)
with_mark event k = event

abbrev pub marked : Event → Option ℕ → Event
marked event None = event
marked event (Some k) = with_mark event k

-- ---- what waits to be taken

-- the joined bytes of the replies to a session
abbrev pub bytes_for : ℕ → List Reply → List ℕ
bytes_for c all = flat_map (λ reply. reply.bytes) (filter (λ reply. reply.session == c) all)

-- what waits for session c after one event more, with its replies
abbrev pub waiting_after : ℕ → List ℕ → Event → List Reply → List ℕ
waiting_after c waiting (Take d) all = if d == c then [] else waiting
waiting_after c waiting event all = waiting ++ bytes_for c all

abbrev pub waiting_from : World → List Event → ℕ → List ℕ → List ℕ
waiting_from world [] c waiting = waiting
waiting_from world (event ∷ events) c waiting =
    waiting_from (step world event).world events c (waiting_after c waiting event (step world event).replies)

-- the bytes of a session's replies that no take has handed out
abbrev pub outbox : Journal → ℕ → List ℕ
outbox journal c = waiting_from (opened journal.opening) journal.events c []
