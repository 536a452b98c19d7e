-- What a text gives that is run.
use Rattle.std.specs.Prelude.{◌≡◌, ◌++◌, ℕ, Bool, false, List, [], if◌then◌else◌}
use Rattle.r9_event.specs.declared.event.event.Event.{Event}
use Rattle.r9_event.specs.declared.event.event.Opening.{Opening}
use Rattle.r9_event.specs.declared.event.event.Reply.{Reply}
use Rattle.model_history.specs.event.Legal.{Roll, AllowedFrom}
use Rattle.model_draw.specs.draw.Files.{screen_file}
use Rattle.model_history.specs.records.Line.{reply_lines}
use Rattle.model_history.specs.records.Record.{IsRecord}
use Rattle.model_world.specs.Replay.{replay, replies}
use Rattle.model_world.specs.World.{World}
use Rattle.r9_hall.specs.hall.WorldView.{WorldValue}
use Rattle.r9_serve.specs.replay.Replays.{screen_lines}

-- the world may go on with these events
pub record MayRun (w : WorldValue) (events : List Event) : Type 0 where
  pub roll : Roll
  pub legal : AllowedFrom roll events
  pub begun : w.begun ≡ roll.begun
  pub going : w.broken ≡ false

-- these are the replies to the one history whose record the text is, and this is the world to which it led
pub record AreRepliesTo (opening : Opening) (text : List ℕ) (given : List Reply) (world : World) : Type 0 where
  pub events : List Event
  pub is_record : IsRecord text events
  pub one : (others : List Event) → IsRecord text others → events ≡ others
  pub are_replies : given ≡ replies opening events
  pub led : world ≡ replay opening events

-- what is put out: a line for each reply, and then the screen of the world where that is asked for
abbrev pub output : (screen : Bool) → List Reply → World → List ℕ
output screen given world = reply_lines given ++ (if screen then screen_lines (screen_file world.desktop.device) else [])
