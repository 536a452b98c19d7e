-- The windows of an image in two lists, before and after, and which are topmost at a point.
use Rattle.std.specs.Prelude.{◌≡◌, ◌≢◌, ◌≤◌, ◌++◌, ◌==◌, ◌&&◌, length, take, true, ℕ, Bool, List, Option, Some, None, All, if◌then◌else◌}
use Rattle.r9_geom.specs.declared.Point.{Point}
use Rattle.r9_geom.specs.Geometry.{holds, is_point, strip}
use Rattle.model_forest.specs.declared.Window.{Window}
use Rattle.model_forest.specs.World.{World, image_at}
use Rattle.model_forest.specs.View.{is_bare, top_window}
use Rattle.r9_restack.specs.declared.stacks.Run.{Run}
use Rattle.r9_restack.specs.declared.stacks.Stacks.{Stacks}
use Rattle.r9_restack.specs.declared.stacks.Tops.{Tops}

-- whether two windows are one
abbrev pub is_window : Window → Window → Bool
is_window a b = (a.image == b.image && is_point a.place.min b.place.min) && is_point a.place.max b.place.max

-- all of them, before and after
unfoldable pub before_of : Stacks → List Window
before_of s = s.front.now ++ s.old.now

unfoldable pub after_of : Stacks → List Window
after_of s = s.front.now ++ (s.upper.now ++ s.lower.now)

-- the topmost ones, and nothing where a window stands with which both lists begin
unfoldable pub tops_at : Stacks → Point → Option Tops
tops_at s z =
    if is_bare s.front.now z then Some (record { before = top_window s.old.now z; after = top_window (s.upper.now ++ s.lower.now) z })
    else None

-- over the first row of a run that begins at a point the windows of the run are topmost
abbrev pub IsRunAlong : Stacks → Point → Run → Type 0
IsRunAlong s at run = (z : Point) → holds (strip at run.extent.columns) z ≡ true → tops_at s z ≡ run.tops

-- before they are those of the image, and image w is not among those with which both lists begin
pub record IsStacked (world : World) (p w : ℕ) (s : Stacks) : Type 0 where
  pub before : (image_at world p).windows ≡ before_of s
  pub apart : All (λ v. v.image ≢ w) s.front.now

-- two lists begin with the same windows, so many of them, among which image w is not
pub record IsFront (before after : List Window) (w n : ℕ) : Type 0 where
  pub old : n ≤ length before
  pub new : n ≤ length after
  pub same : take n before ≡ take n after
  pub apart : All (λ v. v.image ≢ w) (take n after)
