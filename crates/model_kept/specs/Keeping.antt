-- Where each pixel of a world of images is kept, once: with the image itself, where it stands nowhere or its parent does
-- not show it, and else where its parent keeps the point at which it stands. It reads lists and rectangles alone.
use Rattle.std.specs.Prelude.{◌≡◌, ◌≤◌, ℕ, zero, suc, ◌==◌, Bool, true, false, ◌&&◌, List, Some, find, option_map, All, if◌then◌else◌}
use Rattle.std.specs.Option.{option_map_or}
use Rattle.r9_geom.specs.declared.Point.{Point}
use Rattle.r9_geom.specs.declared.Rect.{Rect}
use Rattle.r9_geom.specs.Geometry.{holds, carried}
use Rattle.model_forest.specs.declared.Window.{Window}
use Rattle.model_forest.specs.Stack.{seen}
use Rattle.model_forest.specs.World.{Image, World, image_at, no_rect, parent_of, IsLive, IsWindowOf, deepest}
use Rattle.model_forest.specs.View.{top_window, is_bare}

-- a place for a pixel: on the plane of an image that stands nowhere, or in the tiles of a window, at a point of the image
pub record Place : Type 0 where
  pub image : ℕ
  pub at : Point

abbrev pub own : ℕ → Point → Place
own i p = record { image = i; at = p }

-- the place of an image in a list of windows
abbrev pub place_among : List Window → ℕ → Rect
place_among windows i = option_map_or (λ w. w.place) (find (λ w. w.image == i) windows) no_rect

-- the point of the parent at which a window's own point stands
abbrev pub outward : World → ℕ → ℕ → Point → Point
outward world parent i p =
    carried p (image_at world i).r.min (place_among (image_at world parent).windows i).min

-- the window is the topmost one there
abbrev pub is_top : List Window → ℕ → Point → Bool
is_top windows i q = option_map_or (λ w. w.image == i) (top_window windows q) false

-- the parent shows that window at its point q
abbrev pub is_shown : World → ℕ → ℕ → Point → Bool
is_shown world parent i q = holds (image_at world parent).r q && is_top (image_at world parent).windows i q

-- so many levels up at most
abbrev pub keeping_within : ℕ → World → ℕ → Point → Place
keeping_within zero world i p = own i p
keeping_within (suc depth) world i p =
    option_map_or
    (λ parent.
    if is_shown world parent i (outward world parent i p) then keeping_within depth world parent (outward world parent i p)
    else own i p)
    (parent_of world i)
    (own i p)

-- where the pixel of an image at a point of its rectangle is kept
abbrev pub keeping : World → ℕ → Point → Place
keeping world i p = keeping_within (image_at world i).depth world i p

-- a point of a window is hidden where its parent does not show it
abbrev pub is_hidden : World → ℕ → Point → Bool
is_hidden world i p =
    option_map_or (λ parent. if is_shown world parent i (outward world parent i p) then false else true) (parent_of world i) false

-- each window has one place in the list of its parent
abbrev pub HasOnePlaces : World → Type 0
HasOnePlaces world = (i : ℕ) → IsLive world i → All (λ w. place_among (image_at world i).windows w.image ≡ w.place) (image_at world i).windows

-- the pixel of each bare point is the kept one
abbrev pub HasKept : World → (Place → ℕ) → Type 0
HasKept world kept = (i : ℕ) (p : Point) → IsLive world i → holds (image_at world i).r p ≡ true → is_bare (image_at world i).windows p ≡ true → (image_at world i).canvas p ≡ kept (keeping world i p)

-- a world of such lists and rectangles, with the pixels that are kept
abbrev pub with_kept : World → (Place → ℕ) → World
with_kept shape kept =
    λ n. option_map {T = Image} (λ image. record image { canvas = seen image.r image.windows (λ p. kept (keeping shape n p)) }) (shape n)

-- what is kept of where images stand, also while one of them is in no list
pub record IsStanding (world : World) : Type 0 where
  pub shallow : (i : ℕ) → IsLive world i → (image_at world i).depth ≤ deepest
  pub windows : (i : ℕ) → IsLive world i → All (IsWindowOf world i) (image_at world i).windows
  pub parents : (i p : ℕ) → IsLive world i → parent_of world i ≡ Some p → IsLive world p
  pub above : (i p : ℕ) → IsLive world i → parent_of world i ≡ Some p → (image_at world i).depth ≡ suc (image_at world p).depth
