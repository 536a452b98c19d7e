-- When a string can be drawn, and when that takes no memory.
use Rattle.std.specs.Prelude.{ℕ, ◌^◌, ◌≤◌, IfSome}
use Rattle.r9_geom.specs.declared.Rect.{Rect}
use Rattle.r9_geom.specs.Geometry.{area_of, meet, IsNearBy, IsRectNearBy}
use Rattle.model_forest.specs.World.{World, image_at, IsLive}
use Rattle.r9_draw.specs.declared.strings.lettering.Lettering.{Lettering}

-- The images live; the points, and the rectangle of the font's image, are within 2^32 of 0.
pub record CanLetter (images : World) (l : Lettering) : Type 0 where
  pub dst : IsLive images l.dst.0
  pub src : IsLive images l.src.0
  pub font_image : IsLive images l.font_image.0
  pub background : IfSome l.background (λ b. IsLive images b.image.0)
  pub p : IsNearBy (2 ^ 32) l.p
  pub sp : IsNearBy (2 ^ 32) l.sp
  pub background_p : IfSome l.background (λ b. IsNearBy (2 ^ 32) b.p)
  pub font_r : IsRectNearBy (2 ^ 32) (image_at images l.font_image.0).r

-- room for so many points is enough for what is drawn into r on an image
abbrev pub Fits : World → (dst room : ℕ) → Rect → Type 0
Fits images dst room r = area_of (meet r (image_at images dst).r) ≤ room
