-- A table of images when tiles are taken for the windows of one of them, or given back.
use Rattle.std.proofs.Common.{◌≡◌, ◌∙◌, ℕ, Bool, true, false, List, length, Option, Some, None, refl, sym, ap, subst, arith}
use Rattle.std.specs.Prelude.{◌≤◌, ◌&&◌, ◌||◌, All, not, is_some, if◌then◌else◌}
use Rattle.std.specs.List.{list_any}
use Rattle.std.proofs.lemmas.Bool.{and_right}
use Rattle.r9_geom.specs.declared.Point.{Point}
use Rattle.r9_geom.specs.declared.Rect.{Rect}
use Rattle.r9_geom.specs.Geometry.{holds}
use Rattle.r9_plane.specs.Pixels.{pixel_at, rect_of}
use Rattle.r9_plane.specs.declared.plane.Plane.{Plane}
use Rattle.r9_plane.proofs.PlaneLemmas.{pixel_outside}
use Rattle.model_forest.specs.declared.Window.{Window}
use Rattle.model_forest.specs.World.{World, image_at}
use Rattle.model_kept.specs.Cells.{cell_of, in_cell}
use Rattle.model_kept.specs.Keeping.{Place}
use Rattle.r9_cells.specs.declared.table.Cells.{Cells}
use Rattle.r9_cells.specs.Cells.{all_rows, cell_pixel, place_pixel}
use Rattle.r9_cells.specs.Fitting.{hides_of, shows_of}
use Rattle.r9_cells.specs.Rows.{cell_at, cell_place, row_at}
use Rattle.r9_cells.proofs.Steps.{or_none}
use Rattle.r9_pixels.specs.declared.own.Own.{Own}
use Rattle.r9_pixels.specs.declared.own.Own.TheVariants.{Whole, Hidden}
use Rattle.r9_pixels.specs.Owns.{own_at, IsTabled, IsWithinBits}
use Rattle.r9_pixels.specs.Places.{in_hidden, in_shown, StandsOn}
use Rattle.r9_pixels.proofs.Owning.{no_window, none_window, tabled_as, IsNoWindow}
use Rattle.r9_pixels.proofs.Standing.{hidden_rect, hides_none, shows_none, IsFormed}
use Rattle.r9_pixels.proofs.Telling.{kept_of, place_of}

-- just the cells that are hidden, or that had a tile, have one then
abbrev pub IsTaken : Cells → Cells → World → ℕ → List Window → Type 0
IsTaken old new world p windows = (j l : ℕ) → is_some (cell_at (all_rows new) j l) ≡ (is_some (cell_at (all_rows old) j l) || list_any (hides_of world p windows j l) windows)

-- just the cells that had a tile, but not those that are shown
abbrev pub IsGivenBack : Cells → Cells → World → ℕ → List Window → Type 0
IsGivenBack old new world p windows = (j l : ℕ) → is_some (cell_at (all_rows new) j l) ≡ (not (list_any (shows_of world p windows j l) windows) && is_some (cell_at (all_rows old) j l))

and_or : (h a b : Bool) → (h && (a || b)) ≡ ((h && a) || (h && b))
and_or true a b = refl
and_or false a b = refl

and_not : (h s a : Bool) → (h && (not s && a)) ≡ (not (h && s) && (h && a))
and_not true s a = refl
and_not false s a = refl

if_held : (h s : Bool) (raw : ℕ) → (if h then (if s then raw else 0) else 0) ≡ (if h && s then (if h then raw else 0) else 0)
if_held true s raw = refl
if_held false s raw = refl

pub none_is : (o : Option ℕ) → is_some o ≡ false → o ≡ None
none_is None e = refl
none_is (Some t) e = cc

-- there are places in the hidden cells besides
pub taken_place : (owns : List (Option Own)) (old new : Cells) (world : World) (p : ℕ) (windows : List Window) → IsFormed owns world → All (StandsOn world p) windows → IsTaken old new world p windows → (place : Place) → place_of new place.image place.at (own_at owns place.image) ≡ (place_of old place.image place.at (own_at owns place.image) || in_hidden world p windows place)
taken_place owns old new world p windows formed all taken place = by_own (own_at owns n) refl
  where
    n : ℕ
    n = place.image

    r : Rect
    r = (image_at world n).r

    out : IsNoWindow (own_at owns n) → in_hidden world p windows place ≡ false
    out none =
        ap (λ b. holds r place.at && b) (hides_none owns world p windows n (cell_of r place.at) formed none all) ∙ and_right (holds r place.at) false refl

    by_own : (o : Option Own) → own_at owns n ≡ o → place_of new n place.at o ≡ (place_of old n place.at o || in_hidden world p windows place)
    by_own None is = sym (out (none_window (own_at owns n) is))
    by_own (Some (Whole watched)) is =
        sym (ap (λ b. holds (rect_of watched.plane) place.at || b) (out (subst IsNoWindow (sym is) (no_window watched))) ∙ or_none (holds (rect_of watched.plane) place.at))
    by_own (Some (Hidden extent)) is =
        let h = holds extent.r place.at in
        let had = is_some (cell_at (all_rows old) n (cell_of extent.r place.at)) in
        ap (λ b. h && b) (taken n (cell_of extent.r place.at))
        ∙ and_or h had (list_any (hides_of world p windows n (cell_of extent.r place.at)) windows)
        ∙ ap (λ (q : Rect). (h && had) || (holds q place.at && list_any (hides_of world p windows n (cell_of q place.at)) windows)) (hidden_rect owns world n extent formed is)

-- and none in those that are shown
pub given_place : (owns : List (Option Own)) (old new : Cells) (world : World) (p : ℕ) (windows : List Window) → IsFormed owns world → All (StandsOn world p) windows → IsGivenBack old new world p windows → (place : Place) → place_of new place.image place.at (own_at owns place.image) ≡ (not (in_shown world p windows place) && place_of old place.image place.at (own_at owns place.image))
given_place owns old new world p windows formed all given place = by_own (own_at owns n) refl
  where
    n : ℕ
    n = place.image

    r : Rect
    r = (image_at world n).r

    out : IsNoWindow (own_at owns n) → in_shown world p windows place ≡ false
    out none =
        ap (λ b. holds r place.at && b) (shows_none owns world p windows n (cell_of r place.at) formed none all) ∙ and_right (holds r place.at) false refl

    by_own : (o : Option Own) → own_at owns n ≡ o → place_of new n place.at o ≡ (not (in_shown world p windows place) && place_of old n place.at o)
    by_own None is = sym (and_right (not (in_shown world p windows place)) false refl)
    by_own (Some (Whole watched)) is = sym (ap (λ b. not b && holds (rect_of watched.plane) place.at) (out (subst IsNoWindow (sym is) (no_window watched))))
    by_own (Some (Hidden extent)) is =
        let h = holds extent.r place.at in
        let had = is_some (cell_at (all_rows old) n (cell_of extent.r place.at)) in
        ap (λ b. h && b) (given n (cell_of extent.r place.at))
        ∙ and_not h (list_any (shows_of world p windows n (cell_of extent.r place.at)) windows) had
        ∙ ap (λ (q : Rect). not (holds q place.at && list_any (shows_of world p windows n (cell_of q place.at)) windows) && (h && had)) (hidden_rect owns world n extent formed is)

whole_kept : (plane : Plane) (at : Point) (b : Bool) → holds (rect_of plane) at ≡ b → pixel_at plane at ≡ (if holds (rect_of plane) at then pixel_at plane at else 0)
unfolding pixel_at
whole_kept plane at true e = sym (ap (λ b. if b then pixel_at plane at else 0) e)
whole_kept plane at false e = pixel_outside plane.r plane.chan plane.bytes.items at e ∙ sym (ap (λ b. if b then pixel_at plane at else 0) e)

-- what has a place is kept, and the rest is 0
pub given_kept : (old new : Cells) (n : ℕ) (at : Point) (slot : Option Own) → ((l : ℕ) (q : Point) → cell_pixel new n l q ≡ (if is_some (cell_at (all_rows new) n l) then cell_pixel old n l q else 0)) → kept_of new n at slot ≡ (if place_of new n at slot then kept_of old n at slot else 0)
given_kept old new n at None pixels = refl
given_kept old new n at (Some (Whole watched)) pixels = whole_kept watched.plane at (holds (rect_of watched.plane) at) refl
given_kept old new n at (Some (Hidden extent)) pixels =
    let k = cell_of extent.r at in
    let h = holds extent.r at in
    ap (λ (raw : ℕ). if h then raw else 0) (pixels k (in_cell extent.r at))
    ∙ if_held h (is_some (cell_at (all_rows new) n k)) (place_pixel old (cell_place n extent.r at))

-- the table stays sound
pub taken_tabled : (owns : List (Option Own)) (old new : Cells) (world : World) (p : ℕ) (windows : List Window) → IsFormed owns world → All (StandsOn world p) windows → IsTaken old new world p windows → length (all_rows new) ≡ length (all_rows old) → ((j : ℕ) → length (row_at (all_rows new) j) ≡ length (row_at (all_rows old) j)) → IsTabled owns (all_rows old) → IsTabled owns (all_rows new)
taken_tabled owns old new world p windows formed all taken long lengths tabled =
    tabled_as owns owns (all_rows old) (all_rows new) (long ∙ tabled.numbers) (omega (arith, long)) (λ j extent is. is) (λ j extent is. is) lengths
    (λ j l no none.
    none_is (cell_at (all_rows new) j l)
    (taken j l
    ∙ ap (λ o. is_some o || list_any (hides_of world p windows j l) windows) none
    ∙ hides_none owns world p windows j l formed no all))
    tabled

pub given_tabled : (owns : List (Option Own)) (old new : Cells) (world : World) (p : ℕ) (windows : List Window) → IsGivenBack old new world p windows → length (all_rows new) ≡ length (all_rows old) → ((j : ℕ) → length (row_at (all_rows new) j) ≡ length (row_at (all_rows old) j)) → IsTabled owns (all_rows old) → IsTabled owns (all_rows new)
given_tabled owns old new world p windows given long lengths tabled =
    tabled_as owns owns (all_rows old) (all_rows new) (long ∙ tabled.numbers) (omega (arith, long)) (λ j extent is. is) (λ j extent is. is) lengths
    (λ j l no none.
    none_is (cell_at (all_rows new) j l)
    (given j l
    ∙ ap (λ o. not (list_any (shows_of world p windows j l) windows) && is_some o) none
    ∙ and_right (not (list_any (shows_of world p windows j l) windows)) false refl))
    tabled

-- pixels that are as before, or 0, have no more bits
pub still_bounded : (owns : List (Option Own)) (old new : Cells) → ((j l : ℕ) (q : Point) → cell_pixel new j l q ≤ cell_pixel old j l q) → IsWithinBits owns old → IsWithinBits owns new
still_bounded owns old new fewer bounded = λ j l q extent is. let was = bounded j l q extent is in let now = fewer j l q in omega (arith, was, now)

pub held_fewer : (b : Bool) (x y : ℕ) → x ≡ (if b then y else 0) → x ≤ y
held_fewer true x y e = omega (arith, e)
held_fewer false x y e = omega (arith, e)
