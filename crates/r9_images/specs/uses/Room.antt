-- How many more references there is room for.
use Rattle.std.specs.Prelude.{ℕ, ◌-◌, min}
use Rattle.r9_images.specs.declared.uses.uses.Uses.{Uses}
use Rattle.r9_images.specs.uses.Tally.{room_of}

-- how many more images, screens and windows, each with its id, there is room for
unfoldable pub room : Uses → ℕ
room u =
    min u.image_ids.room
    (min u.screen_ids.room
    (min u.screens.room
    (min u.windows.room
    (min (room_of u.images.uses u.images.made - 1)
    (min (room_of u.on.uses u.on.made - 1)
    (room_of u.numbers.uses u.numbers.made - 1))))))
