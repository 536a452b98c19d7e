-- Where a window that is put shows on the image below.
use Rattle.std.specs.Prelude.{◌≡◌, ◌==◌, ℕ, Bool, true, false, Option, Some, None, if◌then◌else◌}
use Rattle.std.specs.Option.{option_map_or}
use Rattle.r9_geom.specs.declared.Point.{Point}
use Rattle.r9_geom.specs.declared.Rect.{Rect}
use Rattle.r9_geom.specs.Geometry.{holds, strip}
use Rattle.r9_restack.specs.declared.placing.Part.{Part}
use Rattle.r9_restack.specs.declared.placing.Shown.{Shown}
use Rattle.r9_restack.specs.declared.stacks.Stacks.{Stacks}
use Rattle.r9_restack.specs.declared.stacks.Tops.{Tops}
use Rattle.r9_restack.specs.Placing.{shows}
use Rattle.r9_restack.specs.Stacks.{after_of, tops_at}

-- whether it is topmost after
abbrev pub shows_in : Option Tops → ℕ → Bool
shows_in tops w = option_map_or (λ t. option_map_or (λ v. v.image == w) t.after false) tops false

-- whether an area that is done holds the point, and what is topmost; nothing where it does not show
unfoldable pub shown_at : (below area : Rect) → Stacks → ℕ → Point → Option Shown
shown_at below area s w z =
    if shows below (after_of s) w z then Some (record { done = holds area z; tops = tops_at s z })
    else None

-- over the first row of a part that begins at a point that is so which the part tells
abbrev pub IsPartAlong : (below area : Rect) → Stacks → ℕ → Point → Part → Type 0
IsPartAlong below area s w at part = (z : Point) → holds (strip at part.extent.columns) z ≡ true → shown_at below area s w z ≡ part.shown
