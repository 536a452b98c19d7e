-- The texts that a list of events writes.
use Rattle.std.specs.Prelude.{List, [], ◌∷◌, ◌++◌}
use Rattle.std.specs.List.{fold}
use Rattle.model_files.specs.declared.mouse.Mouse.{Mouse}
use Rattle.model_client.specs.desk.Table.{Desk, start, done}
use Rattle.model_client.specs.desk.Asked.{asked}
use Rattle.model_client.specs.desk.Spelled.{Text, spelled}

-- the table after an event
unfoldable pub after : Desk → Mouse → Desk
after d e = record (done (asked d e).act d) { last = e.buttons; mode = (asked d e).mode }

-- the texts that an event writes
unfoldable pub written : Desk → Mouse → List Text
written d e = spelled (asked d e).act e

-- the table after a list of events
unfoldable pub after_all : List Mouse → Desk
after_all events = fold after start events

abbrev pub written_from : Desk → List Mouse → List Text
written_from d [] = []
written_from d (e ∷ events) = written d e ++ written_from (after d e) events

-- the texts that a list of events writes, in order
unfoldable pub pilot : List Mouse → List Text
pilot events = written_from start events
