-- Values by number.
use Rattle.std.specs.Prelude.{ℕ, ◌<◌, ◌≤◌, length, Option, vec_capacity}
use Rattle.slab.specs.Slab.{slab_len}
use Rattle.r9_locate.specs.declared.numbered.Numbered.{Numbered}
use Rattle.r9_locate.specs.numbered.Table.{look}

module _ {T : Type 0} where
  -- the value of a number, where it has one
  abbrev pub value_at : Numbered T → ℕ → Option T
  value_at numbered n = look numbered.values numbered.keys.items n

  -- how many numbers were given out
  abbrev pub count_of : Numbered T → ℕ
  count_of numbered = length numbered.keys.items

  -- a value may be put under a number that was given out, or the next one, of which there are at most 2^32 - 1
  pub record CanInsert (numbered : Numbered T) (n : ℕ) : Type 0 where
    pub value : slab_len numbered.values < numbered.values.capacity
    pub next : n ≤ count_of numbered
    pub key : n < vec_capacity numbered.keys
    pub most : n < 4294967295
