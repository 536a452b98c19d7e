-- What the table of tiles keeps.
use Rattle.std.specs.Prelude.{◌≡◌, ◌≢◌, ◌+◌, ◌<◌, ◌≤◌, ℕ, Bool, true, false, List, [], ◌∷◌, length, Option, Some, None, count_by, slice_index, slice_index_or, if◌then◌else◌}

-- the tiles that are held, by number
abbrev pub slots_of : List Bool → List (List ℕ) → List (Option (List ℕ))
slots_of [] tiles = []
slots_of (held ∷ flags) [] = []
slots_of (held ∷ flags) (tile ∷ tiles) = (if held then Some tile else None) ∷ slots_of flags tiles

-- each tile is held, or its number is once among those that were given back
pub record IsSound (flags : List Bool) (tiles : List (List ℕ)) (given : List ℕ) (room : ℕ) : Type 0 where
  pub same : length tiles ≡ length flags
  pub count : length given + count_by (λ held. held) flags ≡ length flags
  pub spare : (k : ℕ) → k < length given → slice_index_or flags (slice_index given k) true ≡ false
  pub apart : (k l : ℕ) → k < l → l < length given → slice_index given k ≢ slice_index given l
  pub holds_all : length flags ≤ room
  pub most : room ≤ 4294967295

-- the room is there
pub record HasRoom (room tiles flags given : ℕ) : Type 0 where
  pub tiles_fit : room ≤ tiles
  pub flags_fit : room ≤ flags
  pub given_fit : room ≤ given
