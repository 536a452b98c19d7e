-- A window that is put where it stands with another list: the points at which it comes, and what was moved so far.
use Rattle.std.specs.Prelude.{◌≡◌, ◌&&◌, ◌||◌, not, ℕ, Bool, true, false, List}
use Rattle.r9_geom.specs.declared.Point.{Point}
use Rattle.r9_geom.specs.declared.Rect.{Rect}
use Rattle.r9_geom.specs.Geometry.{holds}
use Rattle.model_forest.specs.declared.Window.{Window}
use Rattle.model_forest.specs.World.{World}
use Rattle.model_kept.specs.Keeping.{is_top, own, Place}
use Rattle.model_kept.specs.Restack.{with_own}
use Rattle.r9_restack.specs.Changing.{IsChanged}

-- image w shows then at a point of the image below
abbrev pub shows : Rect → List Window → ℕ → Point → Bool
shows below ws w z = holds below z && is_top ws w z

-- and that point is outside of the area
abbrev pub comes : (below area : Rect) → List Window → ℕ → Point → Bool
comes below area ws w z = shows below ws w z && not (holds area z)

-- the points that are done, and of a rectangle those at which it comes
abbrev pub with_coming : Rect → (coming done : Point → Bool) → Point → Bool
with_coming r coming done z = (holds r z && coming z) || done z

-- of a rectangle no point at which it comes is done
abbrev pub IsComing : Rect → (coming done : Point → Bool) → Type 0
IsComing r coming done = (z : Point) → holds r z ≡ true → coming z ≡ true → done z ≡ false

-- the pixels are moved at the points that are done, and some of w are written with it
abbrev pub IsPlaced : World → ℕ → List Window → ℕ → (given fill : Point → ℕ) → (before now : Place → ℕ) → (Point → Bool) → Type 0
IsPlaced world p ws w given fill before now done =
    IsChanged world p ws w given fill (with_own w (λ x. now (own w x)) before) now done
