-- A window that comes with what another shows, and the other, which moves far outside.
use Rattle.std.specs.Prelude.{◌≡◌, ◌+◌, ◌==◌, ◌<◌, ◌^◌, ℕ, Bool, true, List, ◌∷◌, Option, Some, None, length, slice_index, if◌then◌else◌}
use Rattle.r9_geom.specs.declared.Point.{Point}
use Rattle.r9_geom.specs.declared.Rect.{Rect}
use Rattle.r9_geom.specs.Geometry.{carried, holds, is_empty, meet, IsNearBy, IsOrdered, IsRectNearBy}
use Rattle.r9_plane.specs.Pixels.{number_of}
use Rattle.model_pixel.specs.Channels.{depth}
use Rattle.model_forest.specs.declared.Standing.{Standing}
use Rattle.model_forest.specs.declared.Window.{Window}
use Rattle.model_forest.specs.Stack.{moved, with_windows}
use Rattle.model_forest.specs.Steps.{carried_rect, outside, put_above}
use Rattle.model_forest.specs.View.{view}
use Rattle.model_forest.specs.World.{World, image_at, IsLive}
use Rattle.model_exchanged.specs.exchanged.Exchanged.{put_below}
use Rattle.r9_relist.specs.arrive.Arriving.{after_coming}
use Rattle.r9_forest.specs.declared.ranking.Rank.{Rank}
use Rattle.r9_forest.specs.declared.ranking.Rank.TheVariants.{Top, Above, Below}

-- a window comes on top of a list, or directly above or below another of it
abbrev pub put_in : Rank → Window → List Window → List Window
put_in Top w ws = w ∷ ws
put_in (Above old) w ws = put_above w old ws
put_in (Below old) w ws = put_below w old ws

-- the window beside which it comes, if that is not on top
abbrev pub neighbour : Rank → Option ℕ
neighbour Top = None
neighbour (Above old) = Some old
neighbour (Below old) = Some old

-- what an image shows, counted from both mins, or one raw pixel
abbrev pub taken_over : World → ℕ → Rect → ℕ → Bool → Point → ℕ
taken_over world old r raw keep = λ p. if keep then view world old (carried p r.min (image_at world old).r.min) else raw

-- the world when the window came
abbrev pub replaced : World → (i old : ℕ) → Standing → Rank → Rect → Point → ℕ → Bool → World
replaced world i old standing rank r corner raw keep =
    after_coming world i standing.parent standing.fill r (taken_over world old r raw keep)
    (put_in rank (record { image = i; place = carried_rect r r.min corner }) (image_at world standing.parent).windows)

-- and when a window of image p, with this rectangle, moved far outside
abbrev pub moved_out : World → ℕ → ℕ → Rect → World
moved_out world p old own = with_windows world p (moved old (carried_rect own own.min outside) (image_at world p).windows)

-- the list in which a window of image q moves far outside, once image p has a list
abbrev pub IsLater : World → ℕ → (q p : ℕ) → (list later : List Window) → Type 0
IsLater world old q p list later =
    let own = (image_at world old).r in
    later ≡ moved old (carried_rect own own.min outside) (if q == p then list else (image_at world q).windows)

-- image q has no point where its window is then
abbrev pub IsFarOff : World → ℕ → ℕ → Type 0
IsFarOff world old q =
    let own = (image_at world old).r in
    is_empty (meet (carried_rect own own.min outside) (image_at world q).r) ≡ true

-- pixels row by row are what an image shows
abbrev pub IsShown : World → ℕ → List ℕ → Type 0
IsShown world i raws =
    let r = (image_at world i).r in
    (p : Point) → holds r p ≡ true → slice_index raws (number_of r p) ≡ view world i p

-- what is known of a window that comes so
pub record IsReplacing (world : World) (i old : ℕ) (left standing : Standing) (rank : Rank) (r : Rect) (corner : Point) (raw : ℕ) (keep : Bool) : Type 0 where
  pub free : world i ≡ None
  pub left_at : (image_at world old).standing ≡ Some left
  pub beside : (n : ℕ) → neighbour rank ≡ Some n → (n ≡ old) × (standing ≡ left)
  pub parent_live : IsLive world standing.parent
  pub fill_live : IsLive world standing.fill
  pub shallow : (image_at world standing.parent).depth + 1 < 2 ^ 32
  pub few : length (image_at world standing.parent).windows + 1 < 2 ^ 32
  pub near : IsRectNearBy (2 ^ 34) r
  pub ordered : IsOrdered r
  pub near_corner : IsNearBy (2 ^ 34) corner
  pub fits : raw < 2 ^ depth (image_at world standing.parent).chan
  pub chan : keep ≡ true → (image_at world standing.parent).chan ≡ (image_at world old).chan
