-- A journal: all that a server's state depends on.
use Rattle.std.specs.Prelude.{◌≡◌, ◌+◌, ℕ, List, [], ◌∷◌, map}
use Rattle.r9_event.specs.declared.event.event.Event.{Event}
use Rattle.r9_event.specs.declared.event.event.Entry.{Entry}
use Rattle.r9_event.specs.declared.event.event.Opening.{Opening}

-- the opening and what has happened since
pub record Journal : Type 0 where
  pub opening : Opening
  pub events : List Event

abbrev pub events_of : List Entry → List Event
events_of entries = map (λ entry. entry.event) entries

-- the entries are numbered one after the other, the first with this number
abbrev pub AreNumbered : ℕ → List Entry → Type 0
AreNumbered first [] = Unit {0}
AreNumbered first (entry ∷ entries) = (entry.number ≡ first) × AreNumbered (first + 1) entries
