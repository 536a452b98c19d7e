-- Pictures that a mirror can show, and what two of them have in common.
use Rattle.std.specs.Prelude.{◌≡◌, ◌/◌, ◌<◌, ◌≤◌, ℕ, pos, Bool, false}
use Rattle.r9_geom.specs.declared.Point.{Point}
use Rattle.r9_geom.specs.Geometry.{holds}
use Rattle.model_client.specs.mirror.Picture.{Picture, area}

-- a picture of 1 to 2,048 pixels across and down, with nothing beside it
pub record IsLawful (picture : Picture) : Type 0 where
  pub wide : 1 ≤ picture.width
  pub width : picture.width ≤ 2048
  pub tall : 1 ≤ picture.height
  pub height : picture.height ≤ 2048
  pub beside : (p : Point) → holds (area 0 0 picture.width picture.height) p ≡ false → picture.pixel p ≡ 0

-- two pictures of one size, which differ in cells that are sent alone
pub record IsSameWhereUnsent (sent : (column row : ℕ) → Bool) (before after : Picture) : Type 0 where
  pub width : after.width ≡ before.width
  pub height : after.height ≡ before.height
  pub beside : (p : Point) → holds (area 0 0 before.width before.height) p ≡ false → before.pixel p ≡ 0
  pub pixels : (x y : ℕ) → x < before.width → y < before.height → sent (x / 32) (y / 32) ≡ false
      → after.pixel (record { x = pos x; y = pos y }) ≡ before.pixel (record { x = pos x; y = pos y })
