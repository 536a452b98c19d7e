-- Messages read from bytes without the device to which they were written, where the lengths of their rows are known.
use Rattle.std.specs.Prelude.{ℕ, zero, suc, List, [], ◌∷◌, drop, Ok, Err}
use Rattle.model_draw_parts.specs.dmsg.Message.{Message, LowY}
use Rattle.model_draw_parts.specs.dmsg.Reading.{first_message}
use Rattle.model_draw.specs.draw.Act.{spelled}

-- the bytes behind a message: behind as many bytes of rows as come next, where it is a `y`
abbrev pub behind_by : Message → (rows : List ℕ) → (rest : List ℕ) → List ℕ
behind_by (LowY id r) (len ∷ rows) rest = drop len rest
behind_by m rows rest = rest

-- the lengths that come behind it
abbrev pub rows_left : Message → (rows : List ℕ) → List ℕ
rows_left (LowY id r) (len ∷ rows) = rows
rows_left m rows = rows

-- the messages that stand first in bytes, so many at most, up to bytes that spell none
abbrev pub messages_read : (most : ℕ) → (rows : List ℕ) → List ℕ → List Message
messages_read zero rows bytes = []
messages_read (suc most) rows bytes =
    elim (spelled (first_message bytes)) [
      | Ok m ↦ m.0 ∷ messages_read most (rows_left m.0 rows) (behind_by m.0 rows m.1)
      | Err refusal ↦ []
    ]
