use Rattle.std.proofs.Common.{length, List}
use Rattle.r9_event.specs.declared.event.event.Event.{Event}
use Rattle.r9_journal.proofs.Records.{IsRead}
use Rattle.r9_journal.proofs.reading.Record.check.Given as goal

abbrev pub invariant-lines : goal.invariant-lines
invariant-lines l = (entries : List Event) × IsRead l.fn.text entries l.rest l.roll

abbrev pub decreases-lines : goal.decreases-lines
decreases-lines l = length l.rest
