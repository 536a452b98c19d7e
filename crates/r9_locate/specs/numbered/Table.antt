-- A table that leads from numbers to the keys of a slab.
use Rattle.std.specs.Prelude.{◌≡◌, ℕ, ◌≤◌, List, length, Option, Some, None, slice_index_or}
use Rattle.std.specs.Option.{option_and_then}
use Rattle.slab.specs.Slab.{Slab, ContainsKey, get}

module _ {T : Type 0} where
  -- the value of a number, where it has one
  abbrev pub look : Slab T → List (Option ℕ) → ℕ → Option T
  look slab keys n = option_and_then (get slab) (slice_index_or keys n None)

  -- each key of the table is one of the slab's, no two numbers have one key, and there are not too many numbers
  pub record IsTable (slab : Slab T) (keys : List (Option ℕ)) : Type 0 where
    pub there : (n key : ℕ) → slice_index_or keys n None ≡ Some key → ContainsKey slab key
    pub apart : (n m key : ℕ) → slice_index_or keys n None ≡ Some key → slice_index_or keys m None ≡ Some key → n ≡ m
    pub most : length keys ≤ 4294967295
