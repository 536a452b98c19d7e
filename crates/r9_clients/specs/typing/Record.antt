-- The record that shows the text of an input.
use Rattle.std.specs.Prelude.{◌≡◌, ℕ, List, Ok}
use Rattle.r9_event.specs.declared.event.event.Event.{Event}
use Rattle.model_history.specs.records.Record.{record_of}
use Rattle.model_clients.specs.typed.Shown.{IsShown}
use Rattle.r9_clients.specs.textfile.Input.{Input, input_of}

pub record IsTextRecord (columns rows : ℕ) (bytes lines : List ℕ) : Type 0 where
  pub input : Input
  pub read : input_of bytes ≡ Ok input
  pub history : List Event
  pub shown : IsShown (record { columns = columns; rows = rows; width = input.width; height = input.height }) input.pixels input.text history
  -- the header, and a line for each event
  pub is_record : lines ≡ record_of history
