use Rattle.std.proofs.Common.{◌≡◌, ◌++◌, drop}
use Rattle.std.specs.List.{flat_map}
use Rattle.model_history.specs.event.Journal.{events_of}
use Rattle.model_history.specs.records.Line.{event_line}
use Rattle.model_history.specs.records.Record.{record_from}
use Rattle.r9_embed.proofs.embedded.Embedded.record.Given as goal

-- the lines of the entries that are left come behind those there are
abbrev pub invariant-entries : goal.invariant-entries
invariant-entries l = l.text ++ flat_map event_line (events_of (drop l.entry-index l.entries)) ≡ record_from l.self.hall.first (events_of l.self.hall.stored)
