-- What can be looked at.
use Rattle.std.specs.Prelude.{ℕ, List}
use Rattle.model_draw.specs.draw.Files.{screen_file}
use Rattle.model_draw.specs.draw.Orders.{image_shown, picture_of}
use Rattle.model_draw.specs.draw.World.{World}
use Rattle.r9_draw.specs.declared.draw.shown.Shown.{Shown}
use Rattle.r9_draw.specs.declared.draw.shown.Shown.TheVariants.{Display, Window}

-- its image
abbrev pub shown_in : World → Shown → ℕ
shown_in world Display = 0
shown_in world (Window serial) = image_shown world serial

-- its image file
abbrev pub picture_in : World → Shown → List ℕ
picture_in world Display = screen_file world
picture_in world (Window serial) = picture_of world serial
