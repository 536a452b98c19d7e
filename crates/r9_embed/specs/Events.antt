-- What the events of a record make of a display.
use Rattle.std.specs.Prelude.{◌≡◌, List, [], ◌∷◌}
use Rattle.r9_event.specs.declared.event.event.Event.{Event}
use Rattle.r9_event.specs.declared.event.event.Did.{Did}
use Rattle.r9_hall.specs.hall.Acts.{IsMadeOf}
use Rattle.r9_hall.specs.hall.HallView.{HallValue, IsAsStored}
use Rattle.r9_journal.specs.declared.reading.JournalFault.{JournalFault}
use Rattle.r9_journal.specs.declared.reading.JournalFault.TheVariants as journal
use Rattle.r9_embed.specs.declared.events.LoadFault.{LoadFault}
use Rattle.r9_embed.specs.declared.events.LoadFault.TheVariants as load

-- the events were made, one after the other
abbrev pub AreMade : (before : HallValue) → List Event → (after : HallValue) → Type 0
AreMade before [] after = after ≡ before
AreMade before (event ∷ events) after = (did : Did) × (between : HallValue) × IsMadeOf before event did between × AreMade between events after

-- some events were made, and then none: the history stayed as it was
abbrev pub AreMadeInPart : (before after : HallValue) → Type 0
AreMadeInPart before after = (events : List Event) × (between : HallValue) × AreMade before events between × IsAsStored between after

-- a record that cannot be read cannot be loaded
abbrev pub fault_of : JournalFault → LoadFault
fault_of (journal.Bad place) = load.Bad place
fault_of (journal.Late first) = load.Late first
fault_of journal.Memory = load.Memory
