-- What contracts see of a hall, and the histories that it stands for.
use Rattle.std.specs.Prelude.{◌≡◌, ◌<◌, ◌≤◌, ◌+◌, ◌-◌, ◌^◌, ◌++◌, ℕ, Bool, true, false, IsFalse, List, [], ◌∷◌, length, drop}
use Rattle.std.specs.Vec.{vec_len, vec_capacity}
use Rattle.r9_event.specs.declared.event.event.Event.{Event}
use Rattle.r9_event.specs.declared.event.event.Event.TheVariants.{Stop}
use Rattle.r9_event.specs.declared.event.event.Entry.{Entry}
use Rattle.r9_event.specs.declared.event.event.Opening.{Opening}
use Rattle.model_history.specs.event.Legal.{Allowed, IsLegal, Roll, roll_of}
use Rattle.model_history.specs.event.Journal.{events_of, AreNumbered}
use Rattle.model_world.specs.Replay.{outbox, replay}
use Rattle.model_served.specs.served.Served.{journal_of}
use Rattle.r9_hall.specs.declared.hall.hall.Hall.TheInside as hall
use Rattle.r9_hall.specs.hall.Outboxes.{waiting}
use Rattle.r9_hall.specs.hall.WorldView.{WorldValue, world_in}

-- a hall: its opening, the number of the first entry that it stores, those that it stores, which events may come next, what its
-- history led to, what waits for sessions, and whether it is broken, which it is once memory ran out in the middle of an event
pub record HallValue : Type 0 where
  pub opening : Opening
  pub first : ℕ
  pub stored : List Entry
  pub roll : Roll
  pub world : WorldValue
  pub outboxes : List (ℕ × List ℕ)
  pub broken : Bool

-- how many entries a history has that it stands for
abbrev pub entries : HallValue → ℕ
entries h = h.first - 1 + length h.stored

-- an event may come next; in a broken hall only a Stop may
abbrev pub AllowedNext : HallValue → Event → Type 0
AllowedNext h event = Allowed h.roll event × (h.broken ≡ true → event ≡ Stop)

-- the history led to this, and left this waiting
pub record HasLed (h : HallValue) (events : List Event) : Type 0 where
  pub world : world_in h.world ≡ replay h.opening events
  pub outboxes : (c : ℕ) → waiting h.outboxes c ≡ outbox (journal_of h.opening events) c

-- A hall stands for a legal history, of which it stores the entries from the number first on, where it has what the history led to.
-- Of a broken one only the entries are known.
pub record StandsFor (h : HallValue) (history : List Entry) : Type 0 where
  pub numbered : AreNumbered 1 history
  pub legal : IsLegal (events_of history)
  pub from : 1 ≤ h.first
  pub to : h.first ≤ length history + 1
  pub stored : h.stored ≡ drop (h.first - 1) history
  pub roll : h.roll ≡ roll_of (events_of history)
  pub led : h.broken ≡ false → HasLed h (events_of history)

-- a hall stands for each history that another stands for
abbrev pub StandsOn : (before after : HallValue) → Type 0
StandsOn before after = (history : List Entry) → StandsFor before history → StandsFor after history

-- a hall stands for each history that another stands for, with an event more
abbrev pub StandsForMore : (before : HallValue) → Event → (after : HallValue) → Type 0
StandsForMore before event after =
    (history : List Entry) → StandsFor before history → StandsFor after (history ++ record { number = length history + 1; event = event } ∷ [])

-- something is so of the events of each history that a hall stands for that is not broken
abbrev pub OfHistories : HallValue → (List Event → Type 0) → Type 0
OfHistories h P = h.broken ≡ false → (history : List Entry) → StandsFor h history → P (events_of history)

-- a hall has no entry more
pub record IsAsStored (before after : HallValue) : Type 0 where
  pub stored : after.stored ≡ before.stored
  pub roll : after.roll ≡ before.roll
  pub stands : StandsOn before after

abbrev pub value_of : hall.Inside → HallValue
value_of h = record {
  opening = h.world.opening;
  first = h.first;
  stored = h.stored.items;
  roll = h.roll;
  world = h.world;
  outboxes = h.outboxes.entries;
  broken = h.broken;
}

-- The numbers of the entries fit, and there is room for a Stop until it comes. In a hall that is not broken the world is not, and as
-- many sessions have begun as the roll says.
pub record IsHall (h : hall.Inside) : Type 0 where
  pub from : 1 ≤ h.first
  pub few : h.first + length h.stored.items ≤ 2 ^ 61 + 1
  pub spare : IsFalse h.roll.stopped → vec_len h.stored < vec_capacity h.stored
  pub going : h.broken ≡ false → h.world.broken ≡ false
  pub begun : h.broken ≡ false → h.world.begun ≡ h.roll.begun
