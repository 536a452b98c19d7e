-- An image that stands nowhere, such as the display, gets another size while its windows stay where they stand.
use Rattle.std.specs.Prelude.{◌≡◌, ℕ, false, None, Some, pos, if◌then◌else◌}
use Rattle.r9_geom.specs.declared.Rect.{Rect}
use Rattle.r9_geom.specs.Geometry.{holds}
use Rattle.model_forest.specs.Stack.{seen}
use Rattle.model_forest.specs.World.{Image, World, image_at, origin_point, parent_of, with_image, IsLive}

-- so many columns and rows from the point at 0
abbrev pub sized : ℕ → ℕ → Rect
sized width height = record { min = origin_point; max = record { x = pos width; y = pos height } }

-- the image with all of another rectangle, which is its clip rectangle too: each point that it has in both keeps its ground,
-- and each other one has a raw pixel
abbrev pub resized_image : Image → Rect → ℕ → Image
resized_image image r raw = record image {
  r = r;
  clipr = r;
  canvas = seen r image.windows (λ p. if holds image.r p then image.canvas p else raw);
}

unfoldable pub after_resize : World → (i width height raw : ℕ) → World
after_resize world i width height raw =
    with_image world i (Some (resized_image (image_at world i) (sized width height) raw))

-- an image can get another size that stands nowhere, does not repeat and begins at 0
pub record CanResize (world : World) (i : ℕ) : Type 0 where
  pub live : IsLive world i
  pub nowhere : parent_of world i ≡ None
  pub whole : (image_at world i).repl ≡ false
  pub corner : (image_at world i).r.min ≡ origin_point
