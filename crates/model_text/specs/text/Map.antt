-- Finite maps from numbers, as lists of entries in ascending order of the numbers.
use Rattle.std.specs.Prelude.{ℕ, ◌==◌, Bool, List, Option}
use Rattle.std.specs.Map as map
use Rattle.std.specs.BTreeMap.{insert_entry}
use Rattle.std.specs.Ordering.{nat_cmp}

abbrev pub is_key : ℕ → ℕ → Bool
is_key key other = other == key

abbrev pub lookup : {A : Type 0} → List (ℕ × A) → ℕ → Option A
lookup entries key = map.lookup (is_key key) entries

-- another value of a key that is there
abbrev pub with : {A : Type 0} → List (ℕ × A) → ℕ → A → List (ℕ × A)
with entries key value = map.set_value (is_key key) entries value

-- a key that was not there
abbrev pub and : {A : Type 0} → List (ℕ × A) → ℕ → A → List (ℕ × A)
and entries key value = insert_entry nat_cmp entries key value

abbrev pub without : {A : Type 0} → List (ℕ × A) → ℕ → List (ℕ × A)
without entries key = map.remove_entry (is_key key) entries
