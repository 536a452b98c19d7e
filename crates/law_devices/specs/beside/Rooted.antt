-- An image that stands on the root rio's screen.
use Rattle.std.specs.Prelude.{◌≡◌, ℕ, true, is_some, List, Option, Some}
use Rattle.model_forest.specs.Steps.{clamped_rect}
use Rattle.model_draw_parts.specs.images.Book.{Book, screen_of, tie_of}
use Rattle.model_draw.specs.draw.World.{World, at_number}
use Rattle.model_draw.specs.draw.Orders.{image_shown}
use Rattle.law_likeness.specs.likeness.Likeness.{is_root}

-- Its clip rectangle has coordinates of 32 bits, so that it is as before where the image is moved to where it was.
pub record IsRooted (device : World) (image : ℕ) : Type 0 where
  pub screen : ℕ
  pub on : screen_of device.book image ≡ Some screen
  pub root : is_root device.book screen ≡ true
  pub near : clamped_rect (at_number device image).clipr ≡ (at_number device image).clipr

-- `window`: the serial and the name of the session's window, where it has one.

-- the image of the session's window stands so
abbrev pub IsRootedWindow : (window : Option (ℕ × List ℕ)) → World → Type 0
IsRootedWindow window device = (serial : ℕ) (name : List ℕ) → window ≡ Some (serial, name) → IsRooted device (image_shown device serial)

-- and its name is tied
abbrev pub IsTiedWindow : (window : Option (ℕ × List ℕ)) → Book → Type 0
IsTiedWindow window book = (serial : ℕ) (name : List ℕ) → window ≡ Some (serial, name) → is_some (tie_of book name) ≡ true
