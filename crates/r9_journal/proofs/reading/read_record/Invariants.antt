use Rattle.std.proofs.Common.{◌++◌, length}
use Rattle.model_history.specs.records.Record.{IsRecord}
use Rattle.r9_journal.proofs.reading.read_record.Given as goal

abbrev pub invariant-events : goal.invariant-events
invariant-events l = IsRecord l.fn.text (l.entries ++ l.left)

abbrev pub decreases-events : goal.decreases-events
decreases-events l = length l.left
