use Rattle.std.proofs.Common.{◌≡◌, ◌∙◌, ℕ, true, false, Option, Some, None, refl, sym, subst, ap}
use Rattle.std.specs.Prelude.{is_some, not, option_map}
use Rattle.r9_geom.specs.declared.Point.{Point}
use Rattle.r9_geom.specs.declared.Rect.{Rect}
use Rattle.model_forest.specs.World.{Image, image_at, parent_of, IsLive}
use Rattle.model_kept.specs.Cells.{cell_of, in_cell}
use Rattle.model_kept.specs.Keeping.{own}
use Rattle.r9_locate.specs.locate.Forms.{form_of, Form}
use Rattle.r9_locate.specs.locate.Table.{shape}
use Rattle.r9_store.specs.Tiles.{is_held}
use Rattle.r9_pixels.specs.Kept.{form_at, has_place, kept_at, store_of}
use Rattle.r9_forest.specs.declared.images.Images.{Images}
use Rattle.r9_forest.specs.declared.keeping.Kept.TheVariants.{Tile}
use Rattle.r9_forest.specs.Images.{world}
use Rattle.r9_forest.specs.Keeping.{on_plane, tiles_of}
use Rattle.r9_relist.proofs.arrive.Canvases.{bare_canvas, parent_same}
use Rattle.r9_forest.proofs.Keepers.{cells_alike, kept_nowhere, kept_window, place_live, window_form}
use Rattle.r9_put.proofs.put.Forms.{form_live, nowhere_none}
use Rattle.r9_forest.proofs.images.Images.kept_itself.Goals as goal

pub get-requires : goal.get-requires
get-requires c =
    let was = c.args.self.now in
    place_live was.pixels (shape was.lists) c.args.i c.args.p was.sound.forms c.requires

-- what stands nowhere has a plane
pub returns-then-is_none-clause-value : goal.returns-then-is_none-clause-value
unfolding world
returns-then-is_none-clause-value c =
    let was = c.args.self.now in
    let bare = shape was.lists in
    let none : is_some (image_at bare c.args.i).standing ≡ false = ap (λ (im : Image). is_some im.standing) c.get.ensures ∙ c.is_none.ensures ∙ ap not c.if-is_none.true in
    let root : parent_of (world was) c.args.i ≡ None = sym (parent_same (world was) bare (bare_canvas bare (kept_at was.pixels)) c.args.i) ∙ nowhere_none (image_at bare c.args.i).standing none in
    sym (kept_nowhere was c.args.i c.args.p root)

pub returns-then-is_none-clause-pixel : goal.returns-then-is_none-clause-pixel
unfolding on_plane
returns-then-is_none-clause-pixel c = refl

pub returns-then-is_none-clause-held : goal.returns-then-is_none-clause-held
returns-then-is_none-clause-held c tile e = absurd cc

pub returns-then-is_none-clause-alone : goal.returns-then-is_none-clause-alone
returns-then-is_none-clause-alone c j tile q e at = absurd cc

-- and a window tiles
live : (was : Images) (i : ℕ) (p : Point) → has_place was.pixels (own i p) ≡ true → IsLive (shape was.lists) i
live was i p has = place_live was.pixels (shape was.lists) i p was.sound.forms has

pub in_tile-point-requires-clause-window : goal.in_tile-point-requires-clause-window
in_tile-point-requires-clause-window c =
    let was = c.args.self.now in
    let bare = shape was.lists in
    let window : is_some (image_at bare c.args.i).standing ≡ true = ap (λ (im : Image). is_some im.standing) c.get.ensures ∙ c.is_none.ensures ∙ ap not c.if-is_none.false in
    window_form bare (form_at was.pixels) c.args.i was.sound.forms (live was c.args.i c.args.p c.requires) window

pub returns-clause-value : goal.returns-clause-value
unfolding world
returns-clause-value c =
    let was = c.args.self.now in
    let bare = shape was.lists in
    let i = c.args.i in
    let p = c.args.p in
    let point = c.in_tile-point.result in
    let same = bare_canvas bare (kept_at was.pixels) in
    let window : is_some (image_at bare i).standing ≡ true = ap (λ (im : Image). is_some im.standing) c.get.ensures ∙ c.is_none.ensures ∙ ap not c.if-is_none.false in
    let formed : form_at was.pixels i ≡ Some (form_of (image_at bare i)) = ap (λ (f : ℕ → Option Form). f i) was.sound.forms ∙ form_live bare i (live was i p c.requires) in
    let both : Some (in_cell (image_at bare i).r p) ≡ Some point.at = sym (ap (option_map (λ (f : Form). in_cell f.r p)) formed) ∙ c.in_tile-point.ensures.at in
    let first : in_cell (image_at bare i).r p ≡ point.at = cc in
    sym
    (kept_window was i point.tile p (ap is_some (sym (same.standing i)) ∙ window) c.in_tile-point.ensures.tile
    ∙ ap (Tile point.tile) (ap (λ (r : Rect). in_cell r p) (sym (same.r i)) ∙ first))

pub returns-clause-pixel : goal.returns-clause-pixel
unfolding tiles_of
returns-clause-pixel c = c.in_tile-point.ensures.pixel

pub returns-clause-held : goal.returns-clause-held
unfolding tiles_of
returns-clause-held c tile e =
    let same : c.in_tile-point.result.tile ≡ tile = cc in
    subst (λ t. is_held (store_of c.args.self.now.pixels) t ≡ true) same c.in_tile-point.ensures.held

pub returns-clause-alone : goal.returns-clause-alone
unfolding world
returns-clause-alone c j tile q e at =
    let was = c.args.self.now in
    let bare = shape was.lists in
    let same = bare_canvas bare (kept_at was.pixels) in
    let both = c.in_tile-point.ensures.alone j q (at ∙ sym e) in
    let i_live = live was c.args.i c.args.p c.requires in (
      both.0,
      ap (λ (r : Rect). cell_of r q) (sym (same.r j))
          ∙ cells_alike bare (form_at was.pixels) c.args.i j c.args.p q was.sound.forms i_live (subst (IsLive bare) (sym both.0) i_live) both.1
          ∙ ap (λ (r : Rect). cell_of r c.args.p) (same.r c.args.i),
    )
