-- What is told of a table of images when its slots or its cells change.
use Rattle.std.proofs.Common.{◌≡◌, ◌≢◌, ◌∙◌, ℕ, ◌<◌, Bool, true, false, List, length, set, Option, Some, None, refl, sym, ap, ⊎_elim, eq-eqb}
use Rattle.std.specs.Prelude.{◌==◌, ◌&&◌, is_some, if◌then◌else◌}
use Rattle.std.specs.Option.{option_map_or}
use Rattle.std.proofs.lemmas.Bool.{and_right, cases_eq, ne_eqb}
use Rattle.r9_geom.specs.declared.Point.{Point}
use Rattle.r9_geom.specs.Geometry.{holds}
use Rattle.model_kept.specs.Cells.{cell_of, in_cell}
use Rattle.r9_store.specs.Tiles.{Tiles, pixel}
use Rattle.r9_cells.specs.declared.table.Cells.{Cells}
use Rattle.r9_cells.specs.Cells.{all_rows, cell_pixel, tiles_in}
use Rattle.r9_cells.specs.Rows.{cell_at}
use Rattle.r9_pixels.specs.declared.own.Extent.{Extent}
use Rattle.r9_pixels.specs.declared.own.Own.{Own}
use Rattle.r9_pixels.specs.declared.own.Own.TheVariants.{Whole, Hidden}
use Rattle.r9_pixels.specs.Owns.{has_in, kept_in, own_at}
use Rattle.r9_pixels.proofs.Owning.{own_other, own_same}

-- the pixel that a slot keeps, and whether it has a place for it
abbrev pub kept_of : Cells → ℕ → Point → Option Own → ℕ
kept_of cells n p slot = option_map_or (kept_in cells n p) slot 0

abbrev pub place_of : Cells → ℕ → Point → Option Own → Bool
place_of cells n p slot = option_map_or (has_in cells n p) slot false

-- the pixels of the same tiles
pub pixel_same : (old new : Cells) → ((j l : ℕ) → cell_at (all_rows new) j l ≡ cell_at (all_rows old) j l) → tiles_in new ≡ tiles_in old → (j l : ℕ) (q : Point) → cell_pixel new j l q ≡ cell_pixel old j l q
pixel_same old new cells tiles j l q =
    ap (λ o. option_map_or (λ t. pixel (tiles_in new) t q) o 0) (cells j l)
    ∙ ap (λ (store : Tiles). option_map_or (λ t. pixel store t q) (cell_at (all_rows old) j l) 0) tiles

-- a cell without a tile keeps 0
pub no_pixel : (cells : Cells) (j l : ℕ) (q : Point) → cell_at (all_rows cells) j l ≡ None → cell_pixel cells j l q ≡ 0
no_pixel cells j l q none = ap (λ o. option_map_or (λ t. pixel (tiles_in cells) t q) o 0) none

-- an image whose cells keep the same, with the same tiles
pub kept_same : (old new : Cells) (n : ℕ) (p : Point) (slot : Option Own) → ((l : ℕ) (q : Point) → cell_pixel new n l q ≡ cell_pixel old n l q) → kept_of new n p slot ≡ kept_of old n p slot
kept_same old new n p None same = refl
kept_same old new n p (Some (Whole watched)) same = refl
kept_same old new n p (Some (Hidden extent)) same =
    ap (λ (raw : ℕ). if holds extent.r p then raw else 0) (same (cell_of extent.r p) (in_cell extent.r p))

pub place_same : (old new : Cells) (n : ℕ) (p : Point) (slot : Option Own) → ((l : ℕ) → is_some (cell_at (all_rows new) n l) ≡ is_some (cell_at (all_rows old) n l)) → place_of new n p slot ≡ place_of old n p slot
place_same old new n p None same = refl
place_same old new n p (Some (Whole watched)) same = refl
place_same old new n p (Some (Hidden extent)) same = ap (λ b. holds extent.r p && b) (same (cell_of extent.r p))

-- an image that has no tile
if_none : (b : Bool) (x : ℕ) → (if b then x else x) ≡ x
if_none true x = refl
if_none false x = refl

bare_kept : (cells : Cells) (n : ℕ) (p : Point) (extent : Extent) → ((l : ℕ) → cell_at (all_rows cells) n l ≡ None) → kept_in cells n p (Hidden extent) ≡ 0
bare_kept cells n p extent none =
    ap (λ (raw : ℕ). if holds extent.r p then raw else 0) (no_pixel cells n (cell_of extent.r p) (in_cell extent.r p) (none (cell_of extent.r p)))
    ∙ if_none (holds extent.r p) 0

bare_place : (cells : Cells) (n : ℕ) (p : Point) (extent : Extent) → ((l : ℕ) → cell_at (all_rows cells) n l ≡ None) → has_in cells n p (Hidden extent) ≡ false
bare_place cells n p extent none =
    ap (λ o. holds extent.r p && is_some o) (none (cell_of extent.r p)) ∙ and_right (holds extent.r p) false refl

-- one slot changes
pub by_slot : {C : Type 0} (owns : List (Option Own)) (i : ℕ) (slot : Option Own) (n : ℕ) (tell : Option Own → C) (was : C) → i < length owns → (n ≡ i → tell slot ≡ was) → (n ≢ i → tell (own_at owns n) ≡ was) → tell (own_at (set owns i slot) n) ≡ was
by_slot owns i slot n tell was below here there =
    ⊎_elim
    (λ (same : n ≡ i). ap tell (ap (own_at (set owns i slot)) same ∙ own_same owns i slot below) ∙ here same)
    (λ (other : n ≢ i). ap tell (own_other owns i n slot other) ∙ there other)
    (cases_eq n i)

-- a window comes that has no tile
pub hidden_kept : (owns : List (Option Own)) (i : ℕ) (extent : Extent) (old new : Cells) → i < length owns → own_at owns i ≡ None → ((l : ℕ) → cell_at (all_rows new) i l ≡ None) → ((j l : ℕ) (q : Point) → cell_pixel new j l q ≡ cell_pixel old j l q) → (n : ℕ) (p : Point) → kept_of new n p (own_at (set owns i (Some (Hidden extent))) n) ≡ kept_of old n p (own_at owns n)
hidden_kept owns i extent old new below free none same n p =
    by_slot owns i (Some (Hidden extent)) n (kept_of new n p) (kept_of old n p (own_at owns n)) below
    (λ is. bare_kept new n p extent (λ l. ap (λ m. cell_at (all_rows new) m l) is ∙ none l) ∙ sym (ap (kept_of old n p) (ap (own_at owns) is ∙ free)))
    (λ other. kept_same old new n p (own_at owns n) (same n))

pub hidden_place : (owns : List (Option Own)) (i : ℕ) (extent : Extent) (old new : Cells) → i < length owns → own_at owns i ≡ None → ((l : ℕ) → cell_at (all_rows new) i l ≡ None) → ((j l : ℕ) → cell_at (all_rows new) j l ≡ cell_at (all_rows old) j l) → (n : ℕ) (p : Point) → place_of new n p (own_at (set owns i (Some (Hidden extent))) n) ≡ place_of old n p (own_at owns n)
hidden_place owns i extent old new below free none same n p =
    by_slot owns i (Some (Hidden extent)) n (place_of new n p) (place_of old n p (own_at owns n)) below
    (λ is. bare_place new n p extent (λ l. ap (λ m. cell_at (all_rows new) m l) is ∙ none l) ∙ sym (ap (place_of old n p) (ap (own_at owns) is ∙ free)))
    (λ other. place_same old new n p (own_at owns n) (λ l. ap is_some (same n l)))

-- an image goes, and the others keep what they have
pub removed_kept : (owns : List (Option Own)) (i : ℕ) (old new : Cells) → i < length owns → ((j l : ℕ) (q : Point) → j ≢ i → cell_pixel new j l q ≡ cell_pixel old j l q) → (n : ℕ) (p : Point) → kept_of new n p (own_at (set owns i None) n) ≡ (if n == i then 0 else kept_of old n p (own_at owns n))
removed_kept owns i old new below same n p =
    by_slot owns i None n (kept_of new n p) (if n == i then 0 else kept_of old n p (own_at owns n)) below
    (λ is. sym (ap (λ b. if b then 0 else kept_of old n p (own_at owns n)) (eq-eqb n i is)))
    (λ other. kept_same old new n p (own_at owns n) (λ l q. same n l q other) ∙ sym (ap (λ b. if b then 0 else kept_of old n p (own_at owns n)) (ne_eqb n i other)))

pub removed_place : (owns : List (Option Own)) (i : ℕ) (old new : Cells) → i < length owns → ((j l : ℕ) → j ≢ i → is_some (cell_at (all_rows new) j l) ≡ is_some (cell_at (all_rows old) j l)) → (n : ℕ) (p : Point) → place_of new n p (own_at (set owns i None) n) ≡ (if n == i then false else place_of old n p (own_at owns n))
removed_place owns i old new below same n p =
    by_slot owns i None n (place_of new n p) (if n == i then false else place_of old n p (own_at owns n)) below
    (λ is. sym (ap (λ b. if b then false else place_of old n p (own_at owns n)) (eq-eqb n i is)))
    (λ other. place_same old new n p (own_at owns n) (λ l. same n l other) ∙ sym (ap (λ b. if b then false else place_of old n p (own_at owns n)) (ne_eqb n i other)))
