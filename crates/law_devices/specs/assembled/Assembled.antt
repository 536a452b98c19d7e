-- Two draw devices that are the same to a session, with all that each keeps so that they stay so (draw(3)).
use Rattle.std.specs.Prelude.{◌≡◌, ◌==◌, ℕ, false, All, List, Option, Some, None}
use Rattle.model_draw_parts.specs.images.Book.{image_id, screen_id}
use Rattle.model_exchanged.specs.resize.Resize.{sized}
use Rattle.model_draw.specs.draw.World.{World, at_number}
use Rattle.model_draw.specs.draw.Orders.{manager}
use Rattle.law_likeness.specs.making.Likes.{IsLike}
use Rattle.law_likeness.specs.whole.Steady.{IsSteady}
use Rattle.law_others.specs.others.Others.{HasKeptName, IsFurnished}
use Rattle.law_devices.specs.grounded.Grounded.{IsGrounded}
use Rattle.law_devices.specs.beside.Rooted.{IsRootedWindow, IsTiedWindow}

-- what a device keeps whatever is done: it is whole and orderly, the display has its id, and the root rio's screen is on it
pub record IsSettled (device : World) : Type 0 where
  pub steady : IsSteady device
  pub furnished : IsFurnished device
  pub grounded : IsGrounded device

-- the session's window stands on the root rio's screen, and its name is tied
pub record HoldsWindow (window : Option (ℕ × List ℕ)) (device : World) : Type 0 where
  pub tied : IsTiedWindow window device.book
  pub rooted : IsRootedWindow window device

-- The window manager has no image but the display and the session's window, no rio but the root's, and names are tied to the window alone.
pub record IsAlone (window : Option (ℕ × List ℕ)) (device : World) : Type 0 where
  pub ids : (id : ℕ) → (id == 0) ≡ false → ((name : List ℕ) → window ≡ Some (id, name) → ⊥) → image_id device.book manager id ≡ None
  pub screens : (id : ℕ) → (id == 0) ≡ false → screen_id device.book manager id ≡ None
  pub ties : All (λ t. (t.client ≡ manager) × ((name : List ℕ) × (window ≡ Some (t.id, name)))) device.book.ties

-- the display has these sides, and shows all within them, where they are known
abbrev pub HasSize : (size : Option (ℕ × ℕ)) → World → Type 0
HasSize None device = Unit {0}
HasSize (Some sides) device = ((at_number device 0).r ≡ sized sides.0 sides.1) × ((at_number device 0).clipr ≡ sized sides.0 sides.1)

-- `size`: the width and the height of the displays of both, where they are known. `window`: the serial and the name of the session's
-- window, where it has one. The session is session c of one device and session 1 of the other, which is a world of its own.
pub record AreAlike (c : ℕ) (size : Option (ℕ × ℕ)) (window : Option (ℕ × List ℕ)) (a b : World) : Type 0 where
  pub is : IsLike c window a b
  pub left : IsSettled a
  pub right : IsSettled b
  pub name : HasKeptName window
  pub holds : HoldsWindow window a
  pub alone : IsAlone window b
  pub size_left : HasSize size a
  pub size_right : HasSize size b
