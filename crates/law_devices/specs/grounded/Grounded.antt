-- The root rio of a draw device: its screen is on the display, which stands nowhere.
use Rattle.std.specs.Prelude.{◌≡◌, true}
use Rattle.model_draw_parts.specs.images.Book.{image_of}
use Rattle.model_draw.specs.draw.World.{World, at_number}
use Rattle.model_draw.specs.draw.Orders.{has_rio, rio_screen}

pub record IsGrounded (device : World) : Type 0 where
  pub rio : has_rio device 0 ≡ true
  pub ground : image_of device.book (rio_screen device 0) ≡ 0
  pub depth : (at_number device 0).depth ≡ 0
