-- Reads and writes of a connection's files `data` and `ctl` (draw(3)), and the display as a file.
use Rattle.std.specs.Prelude.{ℕ, ◌==◌, pos, Bool, not, ◌||◌, nat_lt, is_some, List, [], ◌++◌, length, Ok, if◌then◌else◌}
use Rattle.std.specs.Int.{w32, from_le_bytes}
use Rattle.model_text.specs.text.Field.{field, number_field}
use Rattle.model_text.specs.text.Outcome.{Outcome, ◌>>=◌, refuse_if}
use Rattle.model_pixel.specs.Channels.{depth, name}
use Rattle.model_pixel.specs.Rows.{rows_of}
use Rattle.model_forest.specs.World.{Image}
use Rattle.model_forest.specs.Paint.{paint}
use Rattle.model_draw.specs.imgfile.ImageFile.{image_file, rect_fields}
use Rattle.model_draw_parts.specs.images.Book.{image_id}
use Rattle.model_draw.specs.draw.World.{World, client_of, with_client, look, at_number}

-- ---- data

-- the pending bytes, which are then gone: 26 where there are none, 25 where they are more than the most that may be read
unfoldable pub read_data : ℕ → World → ℕ → Outcome (List ℕ × World)
read_data k world most = do
  _ ← refuse_if (length (client_of world k).pending == 0) 26
  _ ← refuse_if (nat_lt most (length (client_of world k).pending)) 25
  Ok ((client_of world k).pending, with_client world k (record (client_of world k) { pending = [] }))

-- ---- ctl

abbrev pub flag_number : Bool → ℕ
flag_number set = if set then 1 else 0

-- 12 fields: the connection, the image id, the channels, repl, the rectangle and the clip rectangle
abbrev pub description : (number id : ℕ) → Image → List ℕ
description number id image =
    number_field (pos number) ++ number_field (pos id) ++ field (name image.chan)
    ++ number_field (pos (flag_number image.repl)) ++ rect_fields image.r ++ rect_fields image.clipr

-- what `ctl` describes: 4 where the id is gone, 18 where its tie has ended
unfoldable pub read_ctl : ℕ → World → ℕ → Outcome (List ℕ)
read_ctl k world number =
    look world k (client_of world k).described
    >>= λ i. Ok (description number (client_of world k).described (at_number world i))

-- 0 is always known, and an id whose tie has ended too
abbrev pub is_known : World → ℕ → ℕ → Bool
is_known world k id = (id == 0) || is_some (image_id world.book k id)

-- the image id that `ctl` describes from now on: 27 unless there are four bytes, 4 where it is unknown
unfoldable pub write_ctl : ℕ → World → List ℕ → Outcome World
write_ctl k world bytes = do
  _ ← refuse_if (not (length bytes == 4)) 27
  _ ← refuse_if (not (is_known world k (from_le_bytes w32 bytes))) 4
  Ok (with_client world k (record (client_of world k) { described = from_le_bytes w32 bytes }))

-- ---- the screen

-- the display as an image file: what is painted from back to front, on it and on all that stands on it (image(6))
unfoldable pub screen_file : World → List ℕ
screen_file world =
    let image = at_number world 0 in
    image_file image.chan image.r (rows_of image.r (depth image.chan) (paint world.images 0))
