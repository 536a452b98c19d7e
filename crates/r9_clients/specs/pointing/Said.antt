-- What a client says that does what a mouse says.
use Rattle.std.specs.Prelude.{◌≡◌, ◌≤◌, ℕ, List, length, map}
use Rattle.std.specs.List.{flat_map}
use Rattle.r9_event.specs.declared.event.event.Event.{Event}
use Rattle.model_history.specs.records.Record.{record_of}
use Rattle.model_files.specs.wire.Message.{T}
use Rattle.model_files.specs.declared.mouse.Mouse.{Mouse}
use Rattle.model_client.specs.declared.desk.Text.{Text}
use Rattle.model_client.specs.desk.Table.{Desk}
use Rattle.model_clients.specs.piloted.History.{IsPiloted, writes}
use Rattle.law_desk.specs.steered.Steered.{write_of}
use Rattle.law_menus.specs.menus.Writes.{writes_from}

-- a text is short
abbrev pub IsShort : Text → Type 0
IsShort text = length (write_of text).1 ≤ 100

-- what is said for each of a list of events, one after the other
abbrev pub said_for_all : Desk → List Mouse → List T
said_for_all d events = map writes (flat_map (λ some. some) (writes_from d events))

-- the lines are the record of a history that does what events of the mouse say
pub record IsRecordOf (events : List Mouse) (lines : List ℕ) : Type 0 where
  pub history : List Event
  pub piloted : IsPiloted events history
  pub is_record : lines ≡ record_of history
