-- A group of windows of one image, and one that moves.
use Rattle.std.specs.Prelude.{◌≡◌, ℕ, List, map, sum_by}
use Rattle.r9_geom.specs.declared.Rect.{Rect}
use Rattle.r9_geom.specs.Geometry.{area_of}
use Rattle.model_forest.specs.Stack.{after_restack, moved, with_windows}
use Rattle.model_forest.specs.declared.Window.{Window}
use Rattle.model_kept.specs.Keeping.{place_among}
use Rattle.model_forest.specs.World.{World, image_at, IsLive}

-- the points of its windows
abbrev pub group_area : World → List ℕ → ℕ
group_area world group = sum_by (λ i. area_of (image_at world i).r) group

-- the places of its windows on image p
abbrev pub places_of : World → (p : ℕ) → List ℕ → List Rect
places_of world p group = map (place_among (image_at world p).windows) group

-- it stands on an image, whose list another order of them changes
pub record IsGroupOn (world : World) (group : List ℕ) (p : ℕ) : Type 0 where
  pub live : IsLive world p
  pub restacked : (order : List Window → List Window) → after_restack order world group ≡ with_windows world p (order (image_at world p).windows)

-- the list of image p with a window of it at some other place
abbrev pub IsMoved : World → ℕ → ℕ → List Window → Type 0
IsMoved world p i list = (place : Rect) × (list ≡ moved i place (image_at world p).windows)
