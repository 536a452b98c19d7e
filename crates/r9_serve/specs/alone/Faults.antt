-- Faults of what the command does, as faults of it.
use Rattle.r9_journal.specs.declared.reading.JournalFault.{JournalFault}
use Rattle.r9_journal.specs.declared.reading.JournalFault.TheVariants as journal
use Rattle.r9_isol.specs.declared.watch.watch.WatchFault.{WatchFault}
use Rattle.r9_isol.specs.declared.watch.watch.WatchFault.TheVariants as watch
use Rattle.r9_serve.specs.declared.alone.fault.AloneFault.{AloneFault}
use Rattle.r9_serve.specs.declared.alone.fault.AloneFault.TheVariants.{NotAlone, BadRecord, LateRecord, Memory}

abbrev pub of_journal : JournalFault → AloneFault
of_journal (journal.Bad place) = BadRecord place
of_journal (journal.Late first) = LateRecord first
of_journal journal.Memory = Memory

abbrev pub of_watch : WatchFault → AloneFault
of_watch (watch.NotAlone entry reason) = NotAlone entry reason
of_watch watch.Memory = Memory
