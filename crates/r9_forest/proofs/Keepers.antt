-- Where pixels are kept, and in which tiles.
use Rattle.std.proofs.Common.{◌≡◌, ◌∙◌, ℕ, Bool, true, false, Option, Some, None, refl, sym, ap}
use Rattle.std.specs.Prelude.{is_some, option_map, unwrap_or, if◌then◌else◌}
use Rattle.std.specs.Option.{option_map_or}
use Rattle.std.specs.List.{count_by, range_with_len, sum_by}
use Rattle.std.proofs.lemmas.Bool.{false≢true}
use Rattle.r9_geom.specs.declared.Point.{Point}
use Rattle.r9_geom.specs.Geometry.{holds}
use Rattle.model_forest.specs.declared.Standing.{Standing}
use Rattle.model_forest.specs.World.{Image, World, image_at, parent_of, IsLive}
use Rattle.model_kept.specs.Cells.{cell_count, cell_of, cell_part, cells_below, hidden_cells, hides_on, hides_under, in_cell}
use Rattle.model_kept.specs.Keeping.{is_hidden, is_shown, keeping, outward, own, IsStanding}
use Rattle.r9_locate.specs.locate.Forms.{form_of, forms_of, Form}
use Rattle.r9_locate.specs.locate.Table.{shape}
use Rattle.r9_locate.proofs.locate.Locating.{keeping-up}
use Rattle.r9_pixels.specs.declared.keeping.KeptPixels.{KeptPixels}
use Rattle.r9_pixels.specs.declared.own.Own.{Own}
use Rattle.r9_pixels.specs.Kept.{form_at, has_place, kept_at, tile_at}
use Rattle.r9_pixels.specs.Owns.{form_in, has_in, own_at}
use Rattle.r9_pixels.proofs.Tiled.{place_tile}
use Rattle.model_kept.proofs.Worlds.{standing-forest}
use Rattle.r9_forest.specs.declared.images.Images.{Images}
use Rattle.r9_forest.specs.declared.keeping.Kept.TheVariants.{Plane, Tile}
use Rattle.r9_forest.specs.Images.{world}
use Rattle.r9_forest.specs.Keeping.{kept_itself, kept_of}
use Rattle.r9_relist.proofs.arrive.Canvases.{bare_canvas, parent_same, SameButCanvas}
use Rattle.r9_forest.proofs.Showing.{keeping_seen, point_has}
use Rattle.r9_put.proofs.put.Forms.{form_live}

-- what has a place is an image
pub place_live : (pixels : KeptPixels) (world : World) (i : ℕ) (p : Point) → form_at pixels ≡ forms_of world → has_place pixels (own i p) ≡ true → IsLive world i
place_live pixels world i p forms has = by_own (own_at pixels.owns.items i) (ap (λ (f : ℕ → Option Form). f i) forms) has
  where
    some_image : (form : Form) (o : Option Image) → Some form ≡ option_map form_of o → is_some o ≡ true
    some_image form None e = cc
    some_image form (Some image) e = refl

    by_own : (slot : Option Own) → option_map form_in slot ≡ option_map form_of (world i) → option_map_or (has_in pixels.cells i p) slot false ≡ true → IsLive world i
    by_own None e has = absurd (false≢true has)
    by_own (Some own) e has = some_image (form_in own) (world i) e

-- and a window where its number says so
pub window_form : (world : World) (forms : ℕ → Option Form) (i : ℕ) → forms ≡ forms_of world → IsLive world i → is_some (image_at world i).standing ≡ true → option_map (λ (f : Form). f.is_window) (forms i) ≡ Some true
window_form world forms i same live window =
    ap (λ (f : ℕ → Option Form). option_map (λ (f : Form). f.is_window) (f i)) same
    ∙ ap (option_map (λ (f : Form). f.is_window)) (form_live world i live)
    ∙ ap (λ b. Some b) window

-- a hidden point is kept by its window itself
pub hidden_keeps : (world : World) → IsStanding world → (i : ℕ) (p : Point) → IsLive world i → is_hidden world i p ≡ true → (keeping world i p ≡ own i p) × (is_some (image_at world i).standing ≡ true)
hidden_keeps world ok i p live hidden = by_parent (parent_of world i) refl
  where
    not_shown : (b : Bool) → (if b then false else true) ≡ true → b ≡ false
    not_shown true e = absurd (false≢true e)
    not_shown false e = refl

    stands : (s : Option Standing) (parent : ℕ) → option_map (λ (s : Standing). s.parent) s ≡ Some parent → is_some s ≡ true
    stands None parent e = cc
    stands (Some s) parent e = refl

    by_parent : (o : Option ℕ) → parent_of world i ≡ o → (keeping world i p ≡ own i p) × (is_some (image_at world i).standing ≡ true)
    by_parent None e =
        absurd (false≢true (sym (ap (λ o. option_map_or (λ (n : ℕ). if is_shown world n i (outward world n i p) then false else true) o false) e) ∙ hidden))
    by_parent (Some parent) e =
        let unshown : is_shown world parent i (outward world parent i p) ≡ false =
        not_shown (is_shown world parent i (outward world parent i p))
        (sym (ap (λ o. option_map_or (λ (n : ℕ). if is_shown world n i (outward world n i p) then false else true) o false) e) ∙ hidden) in (
          keeping-up world ok i parent p live e ∙ ap (λ b. if b then keeping world parent (outward world parent i p) else own i p) unshown,
          stands (image_at world i).standing parent e,
        )

-- and one that is shown by the parent
pub shown_keeps : (world : World) → IsStanding world → (i parent : ℕ) (p : Point) → IsLive world i → parent_of world i ≡ Some parent → is_shown world parent i (outward world parent i p) ≡ true → keeping world i p ≡ keeping world parent (outward world parent i p)
shown_keeps world ok i parent p live stands shown =
    keeping-up world ok i parent p live stands ∙ ap (λ b. if b then keeping world parent (outward world parent i p) else own i p) shown

pub stands_some : (s : Option Standing) → is_some s ≡ true → is_some (option_map (λ (s : Standing). s.parent) s) ≡ true
stands_some None e = absurd (false≢true e)
stands_some (Some s) e = refl

-- the cells of points, as the forms of their images tell them
pub cells_alike : (world : World) (forms : ℕ → Option Form) (i j : ℕ) (p q : Point) → forms ≡ forms_of world → IsLive world i → IsLive world j → option_map (λ (f : Form). cell_of f.r q) (forms j) ≡ option_map (λ (f : Form). cell_of f.r p) (forms i) → cell_of (image_at world j).r q ≡ cell_of (image_at world i).r p
cells_alike world forms i j p q same i_live j_live e =
    let at_i : forms i ≡ Some (form_of (image_at world i)) = ap (λ (f : ℕ → Option Form). f i) same ∙ form_live world i i_live in
    let at_j : forms j ≡ Some (form_of (image_at world j)) = ap (λ (f : ℕ → Option Form). f j) same ∙ form_live world j j_live in
    let both : Some (cell_of (image_at world j).r q) ≡ Some (cell_of (image_at world i).r p) =
    sym (ap (option_map (λ (f : Form). cell_of f.r q)) at_j) ∙ e ∙ ap (option_map (λ (f : Form). cell_of f.r p)) at_i in
    cc

-- ---- where images keep what they keep themselves

pub kept_nowhere : (images : Images) (i : ℕ) (p : Point) → parent_of (world images) i ≡ None → kept_itself images (own i p) ≡ Plane (record { 0 = i }) p
unfolding kept_itself
kept_nowhere images i p root =
    ap
    (λ (o : Option ℕ). if is_some o then Tile (unwrap_or (tile_at images.pixels (own i p)) 0) (in_cell (image_at (world images) i).r p) else Plane (record { 0 = i }) p)
    root

pub kept_window : (images : Images) (i tile : ℕ) (p : Point) → is_some (image_at (world images) i).standing ≡ true → tile_at images.pixels (own i p) ≡ Some tile → kept_itself images (own i p) ≡ Tile tile (in_cell (image_at (world images) i).r p)
unfolding kept_itself
kept_window images i tile p window is =
    let r = (image_at (world images) i).r in
    let stands : is_some (parent_of (world images) i) ≡ true = stands_some (image_at (world images) i).standing window in
    ap (λ b. if b then Tile (unwrap_or (tile_at images.pixels (own i p)) 0) (in_cell r p) else Plane (record { 0 = i }) p) stands
    ∙ ap (λ (o : Option ℕ). Tile (unwrap_or o 0) (in_cell r p)) is

-- the tile of a hidden point
pub record IsTileOf (images : Images) (i : ℕ) (p : Point) (tile : ℕ) : Type 0 where
  pub there : tile_at images.pixels (own i p) ≡ Some tile
  pub kept : kept_of images i p ≡ Tile tile (in_cell (image_at (world images) i).r p)

pub hidden_tile : (images : Images) (i : ℕ) (p : Point) → IsLive (world images) i → holds (image_at (world images) i).r p ≡ true → is_hidden (world images) i p ≡ true → (tile : ℕ) × IsTileOf images i p tile
unfolding world
hidden_tile images i p live inside hidden =
    let bare = shape images.lists in
    let same = bare_canvas bare (kept_at images.pixels) in
    let keeps = hidden_keeps (world images) (standing-forest (world images) images.sound.forest) i p live hidden in
    let has : has_place images.pixels (own i p) ≡ true =
    ap (has_place images.pixels) (sym keeps.0 ∙ keeping_seen bare (kept_at images.pixels) i p)
    ∙ point_has images.lists images.pixels images.spare.items i p images.sound (same.live i ∙ live) (ap (λ r. holds r p) (same.r i) ∙ inside) in
    let window = window_form bare (form_at images.pixels) i images.sound.forms (same.live i ∙ live) (ap is_some (same.standing i) ∙ keeps.1) in
    let found = some_tile (tile_at images.pixels (own i p)) (place_tile images.pixels i p window has) in (
      found.0,
      record { there = found.1; kept = ap (kept_itself images) keeps.0 ∙ kept_window images i found.0 p keeps.1 found.1 },
    )
  where
    some_tile : (o : Option ℕ) → is_some o ≡ true → (tile : ℕ) × (o ≡ Some tile)
    some_tile None e = absurd (false≢true e)
    some_tile (Some tile) e = (tile, refl)

-- worlds that differ in canvases alone have the same cells
pub cells_same : (a b : World) → SameButCanvas a b → (n : ℕ) → cells_below n b ≡ cells_below n a
cells_same a b same n = λ j. sum_by (λ i. hidden i j) (range_with_len 0 n)
  where
    hides_alike : (i p k : ℕ) → hides_on b p i (cell_part (image_at b i).r k) ≡ hides_on a p i (cell_part (image_at a i).r k)
    hides_alike i p k = λ j. hides_under (same.r p j) (same.windows p j) i (same.r i j) (cell_part (same.r i j) k)

    hidden : (i : ℕ) → hidden_cells b i ≡ hidden_cells a i
    hidden i =
        λ j. count_by (λ k. option_map_or (λ p. hides_alike i p k j) (parent_same a b same i j) false) (range_with_len 0 (cell_count (same.r i j)))
