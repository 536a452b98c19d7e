-- The same picture painted from back to front.
use Rattle.std.specs.Prelude.{ℕ, zero, suc, ◌&&◌, List, [], ◌∷◌, if◌then◌else◌}
use Rattle.r9_geom.specs.declared.Point.{Point}
use Rattle.r9_geom.specs.declared.Rect.{Rect}
use Rattle.r9_geom.specs.Geometry.{holds}
use Rattle.model_forest.specs.declared.Window.{Window}
use Rattle.model_forest.specs.World.{World, image_at, deepest}
use Rattle.model_forest.specs.View.{inward}

-- the picture with another put over it at a place, cut to r
abbrev pub put_over : Rect → Rect → (Point → ℕ) → (Point → ℕ) → Point → ℕ
put_over r place top picture p = if holds r p && holds place p then top p else picture p

-- a picture with those of the windows put over it, from the last to the first
abbrev pub painted_over : Rect → (Window → Point → ℕ) → List Window → (Point → ℕ) → Point → ℕ
painted_over r of_window [] picture = picture
painted_over r of_window (w ∷ ws) picture =
    put_over r w.place (of_window w) (painted_over r of_window ws picture)

-- begin with the canvas, and then put each window's own painting at its place
abbrev pub paint_within : ℕ → World → ℕ → Point → ℕ
paint_within zero world i = λ _. 0
paint_within (suc depth) world i =
    painted_over (image_at world i).r
    (λ w p. paint_within depth world w.image (inward world w p))
    (image_at world i).windows
    (image_at world i).canvas

-- an image and all that stands on it, painted from back to front
unfoldable pub paint : World → ℕ → Point → ℕ
paint world i = paint_within (suc deepest) world i
