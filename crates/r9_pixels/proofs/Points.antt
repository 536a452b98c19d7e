-- A hidden point lies in a cell that has a hidden point.
use Rattle.std.proofs.Common.{◌≡◌, ◌∙◌, ℕ, ◌*◌, ◌/◌, ◌%◌, pos, ◌+ℤ◌, Bool, true, false, Option, Some, None, refl, sym, ap, arith}
use Rattle.std.specs.Prelude.{if◌then◌else◌}
use Rattle.std.specs.Option.{option_map_or}
use Rattle.std.proofs.lemmas.Bool.{and_from, and_parts, false≢true}
use Rattle.std.proofs.lemmas.Int.{ints}
use Rattle.std.proofs.lemmas.Nat.{div-mul-add, mod-mul-add}
use Rattle.r9_geom.specs.declared.Point.{Point}
use Rattle.r9_geom.specs.declared.Rect.{Rect}
use Rattle.r9_geom.specs.Geometry.{distance, holds}
use Rattle.r9_geom.proofs.GeometryLemmas.{cell_of as place_of, holds_from, holds-meet}
use Rattle.model_forest.specs.World.{World, image_at, parent_of, IsForest}
use Rattle.model_forest.proofs.Changes.{live-standing}
use Rattle.model_kept.specs.Cells.{cell_of, cell_part, cells_across, hides_on}
use Rattle.model_kept.specs.Keeping.{is_hidden, is_shown, outward, own, Place}
use Rattle.model_kept.proofs.Hiding.{hidden_hides, place-inside}
use Rattle.model_kept.proofs.Once.{places-forest}
use Rattle.r9_cells.proofs.Places.{column_below}
use Rattle.r9_pixels.specs.Places.{HasCells}

-- the points of a cell from its corner on
abbrev square : Rect → ℕ → Rect
square r k =
    let x = r.min.x +ℤ pos (32 * (k % cells_across r)) in
    let y = r.min.y +ℤ pos (32 * (k / cells_across r)) in
    record { min = record { x = x; y = y }; max = record { x = x +ℤ pos 32; y = y +ℤ pos 32 } }

-- a point lies in its cell
pub in_own_cell : (r : Rect) (p : Point) → holds r p ≡ true → holds (cell_part r (cell_of r p)) p ≡ true
in_own_cell r p h =
    let at = place_of r p h in
    let row = distance r.min.y p.y in
    let column = distance r.min.x p.x in
    let below = column_below r p h in
    let across : cell_of r p % cells_across r ≡ column / 32 = mod-mul-add (row / 32) (cells_across r) (column / 32) below in
    let down : cell_of r p / cells_across r ≡ row / 32 = div-mul-add (row / 32) (cells_across r) (column / 32) below in
    holds-meet r (square r (cell_of r p)) p
    ∙ and_from (holds r p) (holds (square r (cell_of r p)) p) h
    (holds_from (square r (cell_of r p)) p (record {
      left = omega (arith, ints, at.left, across);
      right = omega (arith, ints, at.left, across);
      top = omega (arith, ints, at.top, down);
      bottom = omega (arith, ints, at.top, down);
    }))

-- and the points of a cell are the image's
pub of_image : (r : Rect) (k : ℕ) (p : Point) → holds (cell_part r k) p ≡ true → holds r p ≡ true
of_image r k p h = (and_parts (holds r p) (holds (square r k) p) (sym (holds-meet r (square r k) p) ∙ h)).0

-- what is hidden is so by the image below
hidden_parent : (world : World) (i : ℕ) (x : Point) → is_hidden world i x ≡ true → (p : ℕ) × (parent_of world i ≡ Some p)
hidden_parent world i x hidden = by_parent (parent_of world i) refl hidden
  where
    by_parent : (o : Option ℕ) → parent_of world i ≡ o → option_map_or (λ parent. if is_shown world parent i (outward world parent i x) then false else true) o false ≡ true → (p : ℕ) × (parent_of world i ≡ Some p)
    by_parent None stands e = absurd (false≢true e)
    by_parent (Some p) stands e = (p, stands)

pub hidden_has : (world : World) (has : Place → Bool) (i : ℕ) (x : Point) → IsForest world → HasCells world has → holds (image_at world i).r x ≡ true → is_hidden world i x ≡ true → has (own i x) ≡ true
hidden_has world has i x ok cells inside hidden =
    let found = hidden_parent world i x hidden in
    let p = found.0 in
    let r = (image_at world i).r in
    let part = cell_part r (cell_of r x) in
    let listed = ok.listed i p (live-standing world i p found.1) found.1 in
    cells i p x found.1 inside
    ∙ ap (λ o. option_map_or (λ (n : ℕ). hides_on world n i part) o false) found.1
    ∙ hidden_hides world p i part found.1 listed
    (λ y h. place-inside world ok (places-forest world ok) p i y found.1 (of_image r (cell_of r x) y h))
    (x, in_own_cell r x inside, hidden)
