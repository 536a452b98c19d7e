-- The picture that a viewer keeps.
use Rattle.std.specs.Prelude.{ℕ, pos, ◌≡◌}
use Rattle.r9_geom.specs.Geometry.{height, width}
use Rattle.r9_plane.specs.declared.plane.Plane.{Plane}
use Rattle.r9_plane.specs.Pixels as planes
use Rattle.r9_plane.specs.Pixels.{pixel_at, rect_of}
use Rattle.model_client.specs.mirror.Picture.{Picture}
use Rattle.r9_mirror.specs.Sizes.{size_of, IsLawful}

-- what a plane shows
abbrev pub shown : Plane → Picture
shown plane = record { width = width (rect_of plane); height = height (rect_of plane); pixel = pixel_at plane }

-- planes that a viewer may have
pub record IsScreen (chan : ℕ) (plane : Plane) : Type 0 where
  pub channels : planes.chan_of plane ≡ chan
  pub left : (rect_of plane).min.x ≡ pos 0
  pub top : (rect_of plane).min.y ≡ pos 0
  pub lawful : IsLawful (size_of (shown plane))
