-- Why a text is no record, as a fault of the command.
use Rattle.r9_journal.specs.declared.reading.JournalFault.{JournalFault}
use Rattle.r9_journal.specs.declared.reading.JournalFault.TheVariants as journal
use Rattle.r9_serve.specs.declared.mirroring.run.MirrorFault.{MirrorFault}
use Rattle.r9_serve.specs.declared.mirroring.run.MirrorFault.TheVariants.{BadRecord, LateRecord, Memory}

abbrev pub of_journal : JournalFault → MirrorFault
of_journal (journal.Bad place) = BadRecord place
of_journal (journal.Late first) = LateRecord first
of_journal journal.Memory = Memory
