-- How many points the parts of a rectangle have, counted one part after the other.
use Rattle.std.proofs.Common.{◌≡◌, ◌∙◌, ℕ, ◌+◌, ◌*◌, ◌≤◌, sym, ap, arith}
use Rattle.std.proofs.Math.Nat.{add-mul, mul-add}
use Rattle.r9_geom.specs.declared.Point.{Point}
use Rattle.r9_geom.specs.declared.Rect.{Rect}
use Rattle.r9_geom.specs.Geometry.{area_of, at_min, distance, height, width}
use Rattle.r9_plane.proofs.Shifts.{height-at_min, width-at_min}
use Rattle.r9_cells.proofs.Bands.{BandOf, PartOf}

-- the columns before, and so many more
pub more_columns : (r band part : Rect) (column more start before after : ℕ) → PartOf r band part column → more ≡ width part → before ≡ start + column * height band → after ≡ before + area_of part → after ≡ start + (column + more) * height band
more_columns r band part column more start before after is wide counted next =
    let size : area_of part ≡ more * height band = λ j. sym wide j * distance (is.top j) (is.bottom j) in
    omega (arith, counted, next, size, add-mul column more (height band))

-- up to the last
pub every_column : (band : Rect) (column start before : ℕ) → column ≤ width band → width band ≤ column → before ≡ start + column * height band → before ≡ start + area_of band
every_column band column start before most least counted = counted ∙ ap (λ n. start + n * height band) (omega (arith, most, least))

-- the rows before, and so many more
pub more_rows : (r block part : Rect) (row more start before after : ℕ) → BandOf r block part row → more ≡ height part → before ≡ start + width block * row → after ≡ before + area_of part → after ≡ start + width block * (row + more)
more_rows r block part row more start before after is tall counted next =
    let size : area_of part ≡ width block * more = λ j. distance (is.left j) (is.right j) * sym tall j in
    omega (arith, counted, next, size, mul-add (width block) row more)

-- up to the last
pub every_row : (block : Rect) (row start before : ℕ) → row ≤ height block → height block ≤ row → before ≡ start + width block * row → before ≡ start + area_of block
every_row block row start before most least counted = counted ∙ ap (λ n. start + width block * n) (omega (arith, most, least))

-- a rectangle has as many points where it stands from another point on
pub same_there : (part there : Rect) (at : Point) (before after : ℕ) → there ≡ at_min part at → after ≡ before + area_of there → after ≡ before + area_of part
same_there part there at before after is counted =
    counted ∙ ap (λ (s : Rect). before + area_of s) is ∙ (λ j. before + width-at_min part at j * height-at_min part at j)
