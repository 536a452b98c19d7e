-- The record of a session that does what the events of an input say.
use Rattle.std.specs.Prelude.{◌≡◌, ℕ, List, Ok}
use Rattle.r9_event.specs.declared.event.event.Event.{Event}
use Rattle.model_history.specs.records.Record.{record_of}
use Rattle.model_files.specs.declared.mouse.Mouse.{Mouse}
use Rattle.model_clients.specs.piloted.History.{IsPiloted}
use Rattle.r9_clients.specs.deskfile.Events.{events_of}

pub record IsDeskRecord (bytes lines : List ℕ) : Type 0 where
  pub events : List Mouse
  pub read : events_of bytes ≡ Ok events
  pub history : List Event
  pub piloted : IsPiloted events history
  -- the header, and a line for each event of the history
  pub is_record : lines ≡ record_of history
