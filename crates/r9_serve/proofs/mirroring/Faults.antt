-- What a fault of the command tells of the text.
use Rattle.std.proofs.Common.{◌≡◌, ℕ, List, Result, Err, refl}
use Rattle.r9_event.specs.declared.event.event.Event.{Event}
use Rattle.r9_journal.specs.declared.reading.JournalFault.{JournalFault}
use Rattle.r9_journal.specs.declared.reading.JournalFault.TheVariants as journal
use Rattle.r9_serve.specs.declared.mirroring.run.MirrorFault.{MirrorFault}
use Rattle.r9_serve.specs.declared.mirroring.run.MirrorFault.TheVariants.{BadRecord, LateRecord, Memory, ReadFault, WriteFault}
use Rattle.r9_serve.specs.mirroring.Faults.{of_journal}

abbrev Gave : MirrorFault → MirrorFault → Type 0
Gave made given = ◌≡◌ {A = Result (Unit {0}) MirrorFault} (Err made) (Err given)

pub bad_of : (read : Result (List Event) JournalFault) (fault : JournalFault) (made : MirrorFault) (place : ℕ) → made ≡ of_journal fault → Gave made (BadRecord place) → read ≡ Err fault → read ≡ Err (journal.Bad place)
bad_of read (journal.Bad p) made place is gave was = let same : p ≡ place = cc in rw (was, same) refl
bad_of read (journal.Late n) made place is gave was = let other : LateRecord n ≡ BadRecord place = cc in absurd (cc other)
bad_of read journal.Memory made place is gave was = let other : Memory ≡ BadRecord place = cc in absurd (cc other)

pub late_of : (read : Result (List Event) JournalFault) (fault : JournalFault) (made : MirrorFault) (first : ℕ) → made ≡ of_journal fault → Gave made (LateRecord first) → read ≡ Err fault → read ≡ Err (journal.Late first)
late_of read (journal.Late n) made first is gave was = let same : n ≡ first = cc in rw (was, same) refl
late_of read (journal.Bad p) made first is gave was = let other : BadRecord p ≡ LateRecord first = cc in absurd (cc other)
late_of read journal.Memory made first is gave was = let other : Memory ≡ LateRecord first = cc in absurd (cc other)

-- a text is no fault of the input or of the sink
pub unread : (fault : JournalFault) (made : MirrorFault) → made ≡ of_journal fault → Gave made ReadFault → ⊥
unread (journal.Bad p) made is gave = let other : BadRecord p ≡ ReadFault = cc in absurd (cc other)
unread (journal.Late n) made is gave = let other : LateRecord n ≡ ReadFault = cc in absurd (cc other)
unread journal.Memory made is gave = let other : Memory ≡ ReadFault = cc in absurd (cc other)

pub unwritten : (fault : JournalFault) (made : MirrorFault) → made ≡ of_journal fault → Gave made WriteFault → ⊥
unwritten (journal.Bad p) made is gave = let other : BadRecord p ≡ WriteFault = cc in absurd (cc other)
unwritten (journal.Late n) made is gave = let other : LateRecord n ≡ WriteFault = cc in absurd (cc other)
unwritten journal.Memory made is gave = let other : Memory ≡ WriteFault = cc in absurd (cc other)
