-- Windows that a change does not reach: what is so of their places is so of their cells.
use Rattle.std.proofs.Common.{◌≡◌, ◌∙◌, ℕ, ◌<◌, ◌≤◌, Bool, true, false, List, Option, Some, get_or, refl, sym, ap, arith}
use Rattle.std.specs.Prelude.{◌==◌, ◌&&◌, is_some, not, All}
use Rattle.std.specs.Option.{option_map_or}
use Rattle.std.proofs.lemmas.Bool.{false≢true}
use Rattle.std.proofs.lemmas.Bool.Decides.{Decides-eqb}
use Rattle.std.proofs.lemmas.List.Quantifiers.{position-Some}
use Rattle.r9_geom.specs.declared.Rect.{Rect}
use Rattle.r9_geom.specs.Geometry.{holds}
use Rattle.model_forest.specs.declared.Window.{Window}
use Rattle.model_forest.specs.World.{World, image_at, parent_of}
use Rattle.model_kept.specs.Cells.{cell_count, cell_of}
use Rattle.model_kept.specs.Keeping.{Place}
use Rattle.r9_cells.specs.declared.table.Cells.{Cells}
use Rattle.r9_cells.specs.Cells.{all_rows}
use Rattle.r9_cells.specs.Fitting.{hides_cell, hides_listed, meets, standing_cell, AreGivenOff, AreTakenOff, IsLaterTaken, IsWindowAt}
use Rattle.r9_cells.specs.Rows.{cell_at}
use Rattle.r9_cells.proofs.Covering.{cell_corner, corner_cell, corner_holds}
use Rattle.r9_pixels.specs.declared.own.Own.{Own}
use Rattle.r9_pixels.specs.Owns.{has_in, own_at}
use Rattle.r9_pixels.specs.Places.{HasGivenOff, HasLaterTaken, HasTakenOff, StandsOn}
use Rattle.r9_pixels.proofs.Standing.{window_own, IsFormed}

abbrev pub places_in : List (Option Own) → Cells → Place → Bool
places_in owns cells place = option_map_or (has_in cells place.image place.at) (own_at owns place.image) false

-- the corner of a cell has a place where the cell has a tile
pub cell_has : (owns : List (Option Own)) (cells : Cells) (world : World) (i p k : ℕ) → IsFormed owns world → parent_of world i ≡ Some p → k < cell_count (image_at world i).r → places_in owns cells (record { image = i; at = cell_corner (image_at world i).r k }) ≡ is_some (cell_at (all_rows cells) i k)
cell_has owns cells world i p k formed stands below =
    let r = (image_at world i).r in
    let x = cell_corner r k in
    let found = window_own owns world i p formed stands in
    ap (λ o. option_map_or (has_in cells i x) o false) found.1
    ∙ ap (λ (q : Rect). holds q x && is_some (cell_at (all_rows cells) i (cell_of q x))) found.2
    ∙ ap (λ b. b && is_some (cell_at (all_rows cells) i (cell_of r x))) (corner_holds r k below)
    ∙ ap (λ n. is_some (cell_at (all_rows cells) i n)) (corner_cell r k)

-- a window of a list stands on its image
stands_at : (world : World) (p : ℕ) (windows : List Window) (at : ℕ) (w : Window) → All (StandsOn world p) windows → IsWindowAt windows at w → parent_of world w.image ≡ Some p
stands_at world p windows at w all is =
    let found = position-Some (λ (v : Window). v.image == w.image) windows at w is.first in
    let v = get_or windows at w in
    sym (ap (parent_of world) ((Decides-eqb v.image w.image).0 found.1)) ∙ (all at w found.0).stands

pub taken_off : (owns : List (Option Own)) (cells : Cells) (world : World) (p : ℕ) (windows : List Window) (from : ℕ) (areas : List Rect) → IsFormed owns world → All (StandsOn world p) windows → HasTakenOff world p windows from areas (places_in owns cells) → AreTakenOff (all_rows cells) world p windows from areas
taken_off owns cells world p windows from areas formed all still = record {
  first = λ at w early is k below e. each at w k is below (λ late. absurd (omega (arith, early, late))) e;
  others = λ at w late is k below off e. each at w k is below (λ later. off) e;
}
  where
    each : (at : ℕ) (w : Window) (k : ℕ) → IsWindowAt windows at w → k < cell_count (image_at world w.image).r → (from ≤ at → meets areas (standing_cell windows w.image (image_at world w.image).r k) ≡ false) → hides_cell (image_at world p).r windows w.image (image_at world w.image).r k ≡ true → is_some (cell_at (all_rows cells) w.image k) ≡ true
    each at w k is below off e =
        let r = (image_at world w.image).r in
        let corner = corner_cell r k in
        sym (cell_has owns cells world w.image p k formed (stands_at world p windows at w all is) below)
        ∙ still at w (cell_corner r k) is (corner_holds r k below)
        (λ late. ap (λ n. meets areas (standing_cell windows w.image r n)) corner ∙ off late)
        (ap (hides_cell (image_at world p).r windows w.image r) corner ∙ e)

pub given_off : (owns : List (Option Own)) (cells : Cells) (world : World) (p : ℕ) (windows : List Window) (from : ℕ) (areas : List Rect) → IsFormed owns world → All (StandsOn world p) windows → HasGivenOff world p windows from areas (places_in owns cells) → AreGivenOff (all_rows cells) world p windows from areas
given_off owns cells world p windows from areas formed all still = record {
  first = λ at w early is k below e. each at w k is below (λ late. absurd (omega (arith, early, late))) e;
  others = λ at w late is k below off e. each at w k is below (λ later. off) e;
}
  where
    each : (at : ℕ) (w : Window) (k : ℕ) → IsWindowAt windows at w → k < cell_count (image_at world w.image).r → (from ≤ at → meets areas (standing_cell windows w.image (image_at world w.image).r k) ≡ false) → hides_cell (image_at world p).r windows w.image (image_at world w.image).r k ≡ false → is_some (cell_at (all_rows cells) w.image k) ≡ false
    each at w k is below off e =
        let r = (image_at world w.image).r in
        let corner = corner_cell r k in
        sym (cell_has owns cells world w.image p k formed (stands_at world p windows at w all is) below)
        ∙ still at w (cell_corner r k) is (corner_holds r k below)
        (λ late. ap (λ n. meets areas (standing_cell windows w.image r n)) corner ∙ off late)
        (ap (hides_cell (image_at world p).r windows w.image r) corner ∙ e)

-- the cells that a later list hides besides
wants_parts : (h s : Bool) → (h && not s) ≡ true → (h ≡ true) × (s ≡ false)
wants_parts true false e = (refl, refl)
wants_parts true true e = absurd (false≢true e)
wants_parts false s e = absurd (false≢true e)

pub later_taken : (owns : List (Option Own)) (cells : Cells) (world : World) (p : ℕ) (windows : List Window) (q : ℕ) (later : List Window) (from : ℕ) (areas : List Rect) → IsFormed owns world → All (StandsOn world q) later → HasLaterTaken world p windows q later from areas (places_in owns cells) → IsLaterTaken (all_rows cells) world p windows q later from areas
later_taken owns cells world p windows q later from areas formed all still at w k is below want apart =
    let r = (image_at world w.image).r in
    let corner = corner_cell r k in
    let parts = wants_parts (hides_cell (image_at world q).r later w.image r k) (is_some (cell_at (all_rows cells) w.image k)) want in
    let found =
    still at w (cell_corner r k) is (corner_holds r k below)
    (ap (hides_cell (image_at world q).r later w.image r) corner ∙ parts.0)
    (cell_has owns cells world w.image q k formed (stands_at world q later at w all is) below ∙ parts.1)
    (ap (hides_listed world p windows w.image) corner ∙ apart) in
    (found.0, ap (λ n. meets areas (standing_cell later w.image r n)) (sym corner) ∙ found.1)
