-- Reads that wait, a list in order of arrival (flush(5)).
use Rattle.std.specs.Prelude.{ℕ, ◌==◌, Bool, List, length, nat_le, Option, Some, None, if◌then◌else◌}
use Rattle.std.specs.List.{list_any, slice_get, remove}
use Rattle.r9_tags.specs.declared.waiting.ParkFault.{ParkFault}
use Rattle.r9_tags.specs.declared.waiting.ParkFault.TheVariants.{Duplicate, Full, Memory}
use Rattle.r9_tags.specs.declared.waiting.TheConstants.{LIMIT}

module _ {W : Type 0} where
  -- whether a read with this tag waits
  abbrev pub waits : List (ℕ × W) → ℕ → Bool
  waits waiting tag = list_any (λ read. read.0 == tag) waiting

  -- why a read with this tag may not wait: one with its tag does, or else as many wait as may
  abbrev pub park_refusal : List (ℕ × W) → ℕ → Option ParkFault
  park_refusal waiting tag =
      if waits waiting tag then Some Duplicate
      else if nat_le LIMIT (length waiting) then Some Full
      else None

module _ {A : Type 0} where
  -- the item at a place
  abbrev pub at : List A → Option ℕ → Option A
  at items None = None
  at items (Some place) = slice_get items place

  -- the items but the one at a place
  abbrev pub but : List A → Option ℕ → List A
  but items None = items
  but items (Some place) = remove items place

-- a refusal; want of memory is none, and comes only where nothing is refused
abbrev pub refusal_of : ParkFault → Option ParkFault
refusal_of Duplicate = Some Duplicate
refusal_of Full = Some Full
refusal_of Memory = None
