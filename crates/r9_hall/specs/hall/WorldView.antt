-- The world that keeps no history.
use Rattle.std.specs.Prelude.{◌≡◌, ℕ, Bool, false}
use Rattle.r9_event.specs.declared.event.event.Event.{Event}
use Rattle.r9_event.specs.declared.event.event.Opening.{Opening}
use Rattle.r9_geom.specs.declared.Rect.{Rect}
use Rattle.r9_geom.specs.Geometry.{height, width}
use Rattle.model_history.specs.declared.words.Size.{Size}
use Rattle.model_world.specs.Links.{AreKnown, AreLinked, begun_after}
use Rattle.model_world.specs.Replay.{step}
use Rattle.model_world.specs.World.{World, opened}
use Rattle.r9_desktop.specs.Marks.{Display}
use Rattle.r9_desktop.specs.World.{desktop_of, display_of}
use Rattle.r9_hall.specs.declared.hall.sessions.Sessions.{Sessions}
use Rattle.r9_hall.specs.declared.hall.world.World.TheInside as world
use Rattle.r9_hall.specs.hall.Settling.{WaitsAt}
use Rattle.r9_hall.specs.hall.StateView.{world_with}

-- the opening, whether what events used is told, the sessions with what they share, how many sessions have begun, and whether the world is
-- broken, which it is once memory ran out in an event
pub record WorldValue : Type 0 where
  pub opening : Opening
  pub watches : Bool
  pub sessions : Sessions
  pub begun : ℕ
  pub broken : Bool

-- what the history led to
abbrev pub world_in : WorldValue → World
world_in w = world_with w.opening w.sessions

-- the display with its marks
abbrev pub display_in : WorldValue → Display
display_in w = display_of w.sessions.desktop

-- these are the sides of a rectangle
abbrev pub IsSizeOf : Rect → Size → Type 0
IsSizeOf r size = (size.width ≡ width r) × (size.height ≡ height r)

-- nothing has happened yet
pub record IsFirst (opening : Opening) (w : WorldValue) : Type 0 where
  pub world : world_in w ≡ opened opening
  pub begun : w.begun ≡ 0
  pub going : w.broken ≡ false

-- an event has happened
pub record IsStepped (before : WorldValue) (event : Event) (after : WorldValue) : Type 0 where
  pub world : world_in after ≡ (step (world_in before) event).world
  pub begun : after.begun ≡ begun_after before.begun event
  pub going : after.broken ≡ false

abbrev pub value_of : world.Inside → WorldValue
value_of w = record { opening = w.opening; watches = w.watches; sessions = w.sessions; begun = w.begun; broken = w.broken }

-- A world that is not broken has the draw device with the connections of the sessions that live, no session that has not begun,
-- and no read that waits though it can be answered.
pub record IsWorld (w : world.Inside) : Type 0 where
  pub linked : w.broken ≡ false → AreLinked (desktop_of w.sessions.desktop).device w.sessions.live.entries
  pub known : w.broken ≡ false → AreKnown w.begun w.sessions.live.entries
  pub quiet : w.broken ≡ false → (c : ℕ) → WaitsAt w.sessions.live.entries (desktop_of w.sessions.desktop) c
