-- The tiles of windows: there are as many as cells that have a hidden point.
use Rattle.std.proofs.Common.{◌≡◌, ◌≢◌, ◌∙◌, ℕ, ◌<◌, ◌≤◌, Bool, true, false, List, length, Option, Some, None, refl, sym, ap, subst, arith}
use Rattle.std.specs.Prelude.{◌&&◌, is_some, option_map}
use Rattle.std.specs.Option.{option_map_or}
use Rattle.std.proofs.lemmas.List.{get_or_past}
use Rattle.r9_geom.specs.declared.Point.{Point}
use Rattle.r9_geom.specs.declared.Rect.{Rect}
use Rattle.r9_geom.specs.Geometry.{holds}
use Rattle.model_forest.specs.World.{Image, World, image_at, parent_of}
use Rattle.model_kept.specs.Cells.{cell_count, cell_of, cell_part, hides, hides_on}
use Rattle.model_kept.specs.Keeping.{own}
use Rattle.r9_locate.specs.locate.Forms.{form_of, forms_of, Form}
use Rattle.r9_cells.specs.Cells.{all_rows}
use Rattle.r9_cells.specs.Rows.{cell_at, row_at, IsFitting}
use Rattle.r9_cells.proofs.Covering.{cell_corner, corner_cell, corner_holds}
use Rattle.r9_pixels.specs.declared.keeping.KeptPixels.{KeptPixels}
use Rattle.r9_pixels.specs.declared.own.Extent.{Extent}
use Rattle.r9_pixels.specs.declared.own.Own.{Own}
use Rattle.r9_pixels.specs.declared.own.Own.TheVariants.{Whole, Hidden}
use Rattle.r9_pixels.specs.Kept.{form_at, has_place, tile_at}
use Rattle.r9_pixels.specs.Owns.{form_in, has_in, own_at, tile_in}
use Rattle.r9_pixels.specs.Places.{HasCells}
use Rattle.r9_pixels.proofs.Owning.{no_window, none_window, IsNoWindow}
use Rattle.r9_pixels.proofs.Standing.{hidden_rect, hidden_stands, stands_not}

-- what stands nowhere hides nothing
hides_nothing : (world : World) (i : ℕ) (part : Rect) → ((p : ℕ) → parent_of world i ≢ Some p) → hides world i part ≡ false
hides_nothing world i part none = by_parent (parent_of world i) refl
  where
    by_parent : (o : Option ℕ) → parent_of world i ≡ o → hides world i part ≡ false
    by_parent None nowhere = ap (λ o. option_map_or (λ p. hides_on world p i part) o false) nowhere
    by_parent (Some p) stands = absurd (none p stands)

-- a tile is kept for just the cells that have a hidden point
pub fitting : (pixels : KeptPixels) (world : World) → form_at pixels ≡ forms_of world → HasCells world (has_place pixels) → IsFitting (all_rows pixels.cells) world
fitting pixels world formed cells = record {
  within = λ i k below past. within_by i k past (own_at owns i) refl;
  each = λ i k below small. each_by i k small (own_at owns i) refl;
}
  where
    owns : List (Option Own)
    owns = pixels.owns.items

    rows : List (List (Option ℕ))
    rows = all_rows pixels.cells

    hidden_within : (i k : ℕ) (extent : Extent) → cell_count (image_at world i).r ≤ k → own_at owns i ≡ Some (Hidden extent) → cell_at rows i k ≡ None
    hidden_within i k extent past is =
        let many = (pixels.tabled.windows i extent is).cells in
        let same = ap cell_count (hidden_rect owns world i extent formed is) in
        get_or_past (row_at rows i) k None (subst (λ (n : ℕ). n ≤ k) (sym (many ∙ same)) past)

    none_within : (i k : ℕ) (slot : Option Own) → own_at owns i ≡ slot → IsNoWindow slot → cell_at rows i k ≡ None
    none_within i k slot is none = pixels.tabled.others i k (λ extent e. none extent (sym is ∙ e))

    within_by : (i k : ℕ) → cell_count (image_at world i).r ≤ k → (slot : Option Own) → own_at owns i ≡ slot → cell_at rows i k ≡ None
    within_by i k past None is = none_within i k None is (none_window None refl)
    within_by i k past (Some (Whole watched)) is = none_within i k (Some (Whole watched)) is (no_window watched)
    within_by i k past (Some (Hidden extent)) is = hidden_within i k extent past is

    hidden_each : (i k : ℕ) (extent : Extent) → k < cell_count (image_at world i).r → own_at owns i ≡ Some (Hidden extent) → is_some (cell_at rows i k) ≡ hides world i (cell_part (image_at world i).r k)
    hidden_each i k extent small is =
        let r = (image_at world i).r in
        let x = cell_corner r k in
        let inside = corner_holds r k small in
        let stands = hidden_stands owns world i extent formed is in
        let here : has_place pixels (own i x) ≡ is_some (cell_at rows i k) =
        ap (λ o. option_map_or (has_in pixels.cells i x) o false) is
        ∙ ap (λ (q : Rect). holds q x && is_some (cell_at rows i (cell_of q x))) (hidden_rect owns world i extent formed is)
        ∙ ap (λ b. b && is_some (cell_at rows i (cell_of r x))) inside
        ∙ ap (λ n. is_some (cell_at rows i n)) (corner_cell r k) in
        sym here ∙ cells i stands.0 x stands.1 inside ∙ ap (λ n. hides world i (cell_part r n)) (corner_cell r k)

    none_each : (i k : ℕ) (slot : Option Own) → own_at owns i ≡ slot → IsNoWindow slot → is_some (cell_at rows i k) ≡ hides world i (cell_part (image_at world i).r k)
    none_each i k slot is none =
        let at_i : IsNoWindow (own_at owns i) = λ extent e. none extent (sym is ∙ e) in
        ap is_some (none_within i k slot is none)
        ∙ sym (hides_nothing world i (cell_part (image_at world i).r k) (λ p. stands_not owns world p i formed at_i))

    each_by : (i k : ℕ) → k < cell_count (image_at world i).r → (slot : Option Own) → own_at owns i ≡ slot → is_some (cell_at rows i k) ≡ hides world i (cell_part (image_at world i).r k)
    each_by i k small None is = none_each i k None is (none_window None refl)
    each_by i k small (Some (Whole watched)) is = none_each i k (Some (Whole watched)) is (no_window watched)
    each_by i k small (Some (Hidden extent)) is = hidden_each i k extent small is

-- a number for which there is no row has no image
pub rows_past : (pixels : KeptPixels) (world : World) (i : ℕ) → form_at pixels ≡ forms_of world → length (all_rows pixels.cells) ≤ i → world i ≡ None
rows_past pixels world i formed past =
    let owns = pixels.owns.items in
    let none : own_at owns i ≡ None = get_or_past owns i None (omega (arith, pixels.tabled.numbers, past)) in
    nothing (world i) (sym (ap (λ (forms : ℕ → Option Form). forms i) formed) ∙ ap (option_map form_in) none)
  where
    nothing : (o : Option Image) → option_map form_of o ≡ None → o ≡ None
    nothing None e = refl
    nothing (Some image) e = absurd cc

-- a place of a window lies in a tile
pub place_tile : (pixels : KeptPixels) (i : ℕ) (p : Point) → option_map (λ (form : Form). form.is_window) (form_at pixels i) ≡ Some true → has_place pixels (own i p) ≡ true → is_some (tile_at pixels (own i p)) ≡ true
place_tile pixels i p window has = by_own (own_at pixels.owns.items i) window has
  where
    right : (a b : Bool) → (a && b) ≡ true → b ≡ true
    right true b e = e
    right false b e = absurd cc

    by_own : (slot : Option Own) → option_map (λ (form : Form). form.is_window) (option_map form_in slot) ≡ Some true → option_map_or (has_in pixels.cells i p) slot false ≡ true → is_some (option_map_or (tile_in pixels.cells i p) slot None) ≡ true
    by_own None window has = absurd cc
    by_own (Some (Whole watched)) window has = absurd cc
    by_own (Some (Hidden extent)) window has = right (holds extent.r p) (is_some (cell_at (all_rows pixels.cells) i (cell_of extent.r p))) has

-- and so do all places of its cell
pub cell_tile : (pixels : KeptPixels) (i : ℕ) (p q : Point) (form : Form) → form_at pixels i ≡ Some form → cell_of form.r p ≡ cell_of form.r q → tile_at pixels (own i p) ≡ tile_at pixels (own i q)
cell_tile pixels i p q form is same = by_own (own_at pixels.owns.items i) is
  where
    rect : (a b : Form) → Some a ≡ Some b → a.r ≡ b.r
    rect a b e = cc

    by_own : (slot : Option Own) → option_map form_in slot ≡ Some form → option_map_or (tile_in pixels.cells i p) slot None ≡ option_map_or (tile_in pixels.cells i q) slot None
    by_own None e = refl
    by_own (Some (Whole watched)) e = refl
    by_own (Some (Hidden extent)) e =
        let r : extent.r ≡ form.r = rect (form_in (Hidden extent)) form e in
        ap (cell_at (all_rows pixels.cells) i) (ap (λ (r : Rect). cell_of r p) r ∙ same ∙ ap (λ (r : Rect). cell_of r q) (sym r))
