-- A forest of images (draw(3)): images by number, each with the windows that stand on it.
use Rattle.std.specs.Prelude.{◌≡◌, ℕ, ◌+◌, ◌-◌, ◌^◌, ◌<◌, ◌≤◌, length, ◌-ℤ◌, ◌==◌, IsSome, IsTrue, All, ◌≢◌, option_map, Bool, true, false, List, [], Option, Some, None, unwrap_or, pos, if◌then◌else◌}
use Rattle.std.specs.Option.{option_map_or}
use Rattle.std.specs.List.{list_any, count_by}
use Rattle.r9_geom.specs.declared.Point.{Point}
use Rattle.r9_geom.specs.declared.Rect.{Rect}
use Rattle.r9_geom.specs.Geometry.{carried, height, width, HasPoints, IsNearBy, IsOrdered, IsRectNearBy}
use Rattle.model_pixel.specs.Channels as channels
use Rattle.model_forest.specs.declared.Window.{Window}
use Rattle.model_forest.specs.declared.Standing.{Standing}

pub record Image : Type 0 where
  pub r : Rect
  pub clipr : Rect
  pub repl : Bool
  -- the channel descriptor
  pub chan : ℕ
  pub standing : Option Standing
  -- how many images it stands above
  pub depth : ℕ
  -- the raw pixel at each point of r that no window covers, and 0 elsewhere: what a window covers is
  -- never seen again, since it is written anew when it is uncovered
  pub canvas : Point → ℕ
  -- topmost first
  pub windows : List Window

-- the image at each number, where there is one
abbrev pub World : Type 0
World = ℕ → Option Image

-- a point and a rectangle at 0, for a number with no image
abbrev pub origin_point : Point
origin_point = record { x = pos 0; y = pos 0 }

abbrev pub no_rect : Rect
no_rect = record { min = origin_point; max = origin_point }

abbrev pub no_image : Image
no_image = record {
  r = no_rect;
  clipr = no_rect;
  repl = false;
  chan = 0;
  standing = None;
  depth = 0;
  canvas = λ _. 0;
  windows = [];
}

-- the image of a number that is live
abbrev pub image_at : World → ℕ → Image
image_at world i = unwrap_or (world i) no_image

-- the world with another image, or none, at a number
abbrev pub with_image : World → ℕ → Option Image → World
with_image world i slot = λ n. if n == i then slot else world n

-- no image stands above more than so many
unfoldable pub deepest : ℕ
deepest = 2 ^ 32 - 1

-- the two rectangles have one size
pub record SameSize (a b : Rect) : Type 0 where
  pub width : a.max.x -ℤ a.min.x ≡ b.max.x -ℤ b.min.x
  pub height : a.max.y -ℤ a.min.y ≡ b.max.y -ℤ b.min.y

-- the number has an image
abbrev pub IsLive : World → ℕ → Type 0
IsLive world i = IsSome (world i)

-- the number of the image that an image stands on, where it is a window
abbrev pub parent_of : World → ℕ → Option ℕ
parent_of world i = option_map (λ s. s.parent) (image_at world i).standing

-- the image that fills what a window uncovers
abbrev pub fill_of : World → ℕ → ℕ
fill_of world i = option_map_or (λ s. s.fill) (image_at world i).standing 0

-- what each image keeps, taken alone; its coordinates are far from the ends of 64 bits
pub record IsImage (image : Image) : Type 0 where
  pub shallow : image.depth ≤ deepest
  pub ordered : IsOrdered image.r
  pub near_min : IsNearBy (2 ^ 34) image.r.min
  pub near_max : IsNearBy (2 ^ 36) image.r.max
  -- it is moved, and never larger than when it was made
  pub columns : width image.r ≤ 2 ^ 35
  pub rows : height image.r ≤ 2 ^ 35
  pub clip : IsRectNearBy (2 ^ 34) image.clipr
  pub few : length image.windows < 2 ^ 32
  pub chan : IsTrue (channels.is_descriptor image.chan)
  pub raws : (p : Point) → image.canvas p < 2 ^ channels.depth image.chan
  -- what repeats has points
  pub repeats : image.repl ≡ true → HasPoints image.r

-- the window is a live image that stands on image i, one level above it, at a place of its size
pub record IsWindowOf (world : World) (i : ℕ) (w : Window) : Type 0 where
  pub live : IsLive world w.image
  pub stands : parent_of world w.image ≡ Some i
  pub fill : IsLive world (fill_of world w.image)
  pub above : (image_at world w.image).depth ≡ (image_at world i).depth + 1
  pub chan : (image_at world w.image).chan ≡ (image_at world i).chan
  pub size : SameSize w.place (image_at world w.image).r
  pub reach : IsNearBy (2 ^ 36) (carried w.place.min (image_at world i).r.min origin_point)

-- what each world of images keeps
pub record IsForest (world : World) : Type 0 where
  pub images : (i : ℕ) → IsLive world i → IsImage (image_at world i)
  pub windows : (i : ℕ) → IsLive world i → All (IsWindowOf world i) (image_at world i).windows
  pub parents : (i p : ℕ) → IsLive world i → parent_of world i ≡ Some p → IsLive world p
  -- a window stands in the list of its parent
  pub listed : (i p : ℕ) → IsLive world i → parent_of world i ≡ Some p → IsTrue (list_any (λ w. w.image == i) (image_at world p).windows)
  -- no image stands twice in a list
  pub once : (i n : ℕ) → IsLive world i → count_by (λ w. w.image == n) (image_at world i).windows ≤ 1

-- the image may go: nothing stands on it, and it fills for no window
pub record CanGo (world : World) (i : ℕ) : Type 0 where
  pub live : IsLive world i
  pub alone : (image_at world i).windows ≡ []
  pub fills_none : (n : ℕ) → option_map (λ s. s.fill) (image_at world n).standing ≢ Some i
