-- What images have for the pixels that they keep themselves.
use Rattle.std.specs.Prelude.{◌≡◌, ℕ, Bool, Option, Some, is_some, option_map}
use Rattle.std.specs.Option.{option_map_or}
use Rattle.r9_geom.specs.declared.Rect.{Rect}
use Rattle.model_pixel.specs.Channels.{depth}
use Rattle.model_forest.specs.World.{Image, World, parent_of, IsLive}

-- pixels of these channels, at all points of the rectangle, or of a window at those in its hidden cells
pub record Form : Type 0 where
  pub r : Rect
  pub chan : ℕ
  pub is_window : Bool

abbrev pub form_of : Image → Form
form_of image = record { r = image.r; chan = image.chan; is_window = is_some image.standing }

-- what the images of a world are to have, by number
abbrev pub forms_of : World → ℕ → Option Form
forms_of world i = option_map form_of (world i)

-- how many bits each pixel of an image has
abbrev pub bits_in : (ℕ → Option Form) → ℕ → ℕ
bits_in forms i = option_map_or (λ form. depth form.chan) (forms i) 0

-- the pixels of a window have as many bits as those of its parent
abbrev pub HasBits : World → (ℕ → Option Form) → Type 0
HasBits world forms = (i p : ℕ) → IsLive world i → parent_of world i ≡ Some p → bits_in forms i ≡ bits_in forms p
