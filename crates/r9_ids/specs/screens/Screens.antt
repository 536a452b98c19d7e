-- Screens by number.
use Rattle.std.specs.Prelude.{◌≡◌, ℕ, ◌-◌, ◌≤◌, min, List, length, map, Option, Some, slice_index_or, None, vec_len, vec_capacity}
use Rattle.std.specs.Option.{option_and_then}
use Rattle.std.specs.Global.{Vec}
use Rattle.slab.specs.Slab.{Slab, ContainsKey, get, slab_len}
use Rattle.model_draw_parts.specs.declared.images.Screen.{Screen}

-- the screen of each number that was given out, or none where it has gone; and for how many more there is room
pub record Numbered : Type 0 where
  pub screens : List (Option Screen)
  pub room : ℕ

abbrev pub screens_of : Slab Screen → (keys : List (Option ℕ)) → List (Option Screen)
screens_of slab keys = map (λ key. option_and_then (get slab) key) keys

-- there are at most 2^32 - 1 numbers
abbrev pub room_of : Slab Screen → Vec (Option ℕ) → ℕ
room_of slab keys = min (slab.capacity - slab_len slab) (min (vec_capacity keys) 4294967295 - vec_len keys)

-- each key of the table is one of the slab's, no two numbers have one key, and there are not too many numbers
pub record IsTable (slab : Slab Screen) (keys : List (Option ℕ)) : Type 0 where
  pub there : (n key : ℕ) → slice_index_or keys n None ≡ Some key → ContainsKey slab key
  pub apart : (n m key : ℕ) → slice_index_or keys n None ≡ Some key → slice_index_or keys m None ≡ Some key → n ≡ m
  pub most : length keys ≤ 4294967295
