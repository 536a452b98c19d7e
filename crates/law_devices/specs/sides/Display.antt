-- The display of a server.
use Rattle.std.specs.Prelude.{◌≡◌, ◌≤◌, ◌⊎◌, ℕ, true, None}
use Rattle.r9_geom.specs.Geometry.{area_of, height, width}
use Rattle.model_forest.specs.World.{origin_point, parent_of, IsLive}
use Rattle.model_draw.specs.draw.Orders.{is_side}
use Rattle.model_draw.specs.draw.World.{World, at_number}
use Rattle.law_others.specs.sized.Sizes.{sides_of}

-- The display is there, and stands on nothing. It begins at 0, has 1 to 2,048 pixels across and down, and these channels.
pub record HasDisplay (chan : ℕ) (device : World) : Type 0 where
  pub live : IsLive device.images 0
  pub nowhere : parent_of device.images 0 ≡ None
  pub corner : (at_number device 0).r.min ≡ origin_point
  pub wide : is_side (width (at_number device 0).r) ≡ true
  pub high : is_side (height (at_number device 0).r) ≡ true
  pub chan_is : (at_number device 0).chan ≡ chan

-- the display has the sides that it had, or so much was asked for that each of its pixels may be written
abbrev pub HasPaid : (before after : World) → (cost : ℕ) → Type 0
HasPaid before after cost = (sides_of (at_number after 0).r ≡ sides_of (at_number before 0).r) ⊎ (area_of (at_number after 0).r ≤ cost)
