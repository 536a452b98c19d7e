-- A window that goes, with what it uncovers.
use Rattle.std.specs.Prelude.{◌≡◌, ℕ, true, false, List, Some, None}
use Rattle.r9_geom.specs.declared.Point.{Point}
use Rattle.r9_geom.specs.declared.Rect.{Rect}
use Rattle.r9_geom.specs.Geometry.{holds}
use Rattle.model_forest.specs.declared.Window.{Window}
use Rattle.model_forest.specs.Stack.{without}
use Rattle.model_forest.specs.View.{is_bare}
use Rattle.model_forest.specs.World.{World, image_at, parent_of, with_image, CanGo, IsForest}
use Rattle.model_kept.specs.Keeping.{place_among, with_kept, Place}
use Rattle.model_kept.specs.Restack.{fill_of_top, with_list}

-- the list of an image without a window of it, and the world then
abbrev pub others : World → ℕ → ℕ → List Window
others world p w = without w (image_at world p).windows

abbrev pub gone : World → ℕ → ℕ → World
gone world p w = with_image (with_list world p (others world p w)) w None

-- a window of image p may go
pub record IsGoing (world : World) (p w : ℕ) : Type 0 where
  pub before : IsForest world
  pub stands : parent_of world w ≡ Some p
  pub can : CanGo world w

-- the area has all points of the image over which the window stands
abbrev pub HasPlaceOf : World → ℕ → ℕ → Rect → Type 0
HasPlaceOf world p w area = (z : Point) → holds (image_at world p).r z ≡ true → holds (place_among (image_at world p).windows w) z ≡ true → holds area z ≡ true

-- what becomes bare has the fill of the window that is topmost
abbrev pub HasFill : World → ℕ → ℕ → (Place → ℕ) → (Point → ℕ) → Type 0
HasFill world p w kept fill =
    (q : Point) → holds (image_at world p).r q ≡ true → is_bare (image_at world p).windows q ≡ false → is_bare (others world p w) q ≡ true
    → fill q ≡ fill_of_top (with_kept world kept) p q
