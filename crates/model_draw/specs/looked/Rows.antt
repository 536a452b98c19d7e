-- How many bytes the rows have that messages of a write bring (draw(3)).
use Rattle.std.specs.Prelude.{ℕ, zero, suc, ◌-◌, List, [], ◌∷◌, ◌++◌, length, None, Ok, Err}
use Rattle.model_draw_parts.specs.dmsg.Message.{Message, LowY}
use Rattle.model_draw_parts.specs.dmsg.Reading.{first_message}
use Rattle.model_draw.specs.draw.World.{World}
use Rattle.model_draw.specs.draw.Act.{behind, one_message, spelled}

-- how many of the bytes behind it belong to a message
abbrev pub len_behind : (k : ℕ) → World → Message → (rest : List ℕ) → ℕ
len_behind k world m rest = length rest - length (behind k world m rest)

-- the length of the rows of a message, where it is a `y`
abbrev pub rows_of : (k : ℕ) → World → Message → (rest : List ℕ) → List ℕ
rows_of k world (LowY id r) rest = len_behind k world (LowY id r) rest ∷ []
rows_of k world m rest = []

-- the same of the message that stands first in bytes
abbrev pub rows_first : (k : ℕ) → World → List ℕ → List ℕ
rows_first k world bytes =
    elim (spelled (first_message bytes)) [ Ok m ↦ rows_of k world m.0 m.1 | Err refusal ↦ [] ]

-- The lengths of the rows of each `y` among the first so many messages of a write, in order; up to the first that is refused.
abbrev pub rows_within : (most k : ℕ) → World → List ℕ → List ℕ
rows_within zero k world bytes = []
rows_within (suc most) k world bytes =
    elim (one_message k world None 0 bytes) [
      | Ok next ↦ rows_first k world bytes ++ rows_within most k next.0 next.1
      | Err refusal ↦ []
    ]
