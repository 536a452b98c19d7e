-- What a draw device shows of the windows, and what it keeps of its numbers and names.
use Rattle.std.specs.Prelude.{◌≡◌, ◌<◌, ◌==◌, ℕ, true, false, List, [], ◌∷◌, length, slice_index_or, Option, Some, None}
use Rattle.std.specs.List.{list_any}
use Rattle.r9_geom.specs.declared.Rect.{Rect}
use Rattle.model_forest.specs.World.{SameSize}
use Rattle.model_forest.specs.Numbers.{Numbers}
use Rattle.model_draw_parts.specs.declared.images.ImageId.{ImageId}
use Rattle.model_draw_parts.specs.declared.images.ScreenId.{ScreenId}
use Rattle.model_draw_parts.specs.declared.images.Screen.{Screen}
use Rattle.model_draw_parts.specs.declared.images.Thing.TheVariants.{Image}
use Rattle.model_draw_parts.specs.images.Book.{image_id, screen_id, screen_numbered}
use Rattle.model_draw_parts.specs.images.Release.{HasScreens, is_used}
use Rattle.model_draw_parts.specs.images.Ties.{HasTies}
use Rattle.model_draw.specs.draw.World.{World, at_number}
use Rattle.model_draw.specs.draw.Making.{is_window}
use Rattle.model_draw.specs.draw.Orders.{is_window_rect, manager}

-- The image of a window: the manager's, standing on a screen, with the size of the window's rectangle and the channels of
-- the display, so that what it shows can be kept.
pub record ShowsWindow (device : World) (serial : ℕ) (r : Rect) : Type 0 where
  pub counted : (serial == 0) ≡ false
  pub may : is_window_rect r ≡ true
  pub id : ImageId
  pub found : image_id device.book manager serial ≡ Some id
  pub stands : is_window device id.image ≡ true
  pub size : SameSize r (at_number device id.image).r
  pub rect : is_window_rect (at_number device id.image).r ≡ true
  pub chan : (at_number device id.image).chan ≡ device.opening.chan

-- The screen of a rio, on an image with the channels of the display. While its host moves that is for a while the image that
-- the host had before, so nothing more is said of it.
pub record ShowsRio (device : World) (host : ℕ) : Type 0 where
  pub id : ScreenId
  pub found : screen_id device.book manager host ≡ Some id
  pub screen : Screen
  pub numbered : screen_numbered device.book id.screen ≡ Some screen
  pub chan : (at_number device screen.image).chan ≡ device.opening.chan

-- ---- what a device keeps

-- each number that came back was given out and stands once
abbrev pub AreSpare : (made : ℕ) → List ℕ → Type 0
AreSpare made [] = Unit {0}
AreSpare made (n ∷ ns) = (n < made) × (list_any (λ m. m == n) ns ≡ false) × AreSpare made ns

-- a number that was given out and has not come back
pub record IsOut (numbers : Numbers) (n : ℕ) : Type 0 where
  pub made : n < numbers.made
  pub kept : list_any (λ m. m == n) numbers.spare ≡ false

-- each is the number of a screen that has gone, and stands once
abbrev pub AreFree : List (Option Screen) → List ℕ → Type 0
AreFree screens [] = Unit {0}
AreFree screens (s ∷ ss) =
    (s < length screens) × (slice_index_or screens s None ≡ None) × (list_any (λ t. t == s) ss ≡ false) × AreFree screens ss

-- What is used has a number that is out, so that nothing new gets it.
pub record IsOrderly (device : World) : Type 0 where
  pub ties : HasTies device.book
  pub images : (i : ℕ) → is_used device.book (Image i) ≡ true → IsOut device.numbers i
  pub numbers : AreSpare device.numbers.made device.numbers.spare
  pub screens : HasScreens device.book
  pub spare : AreFree device.book.screens device.book.spare
