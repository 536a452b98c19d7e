use Rattle.std.proofs.Common.{◌≡◌, ◌∙◌, ℕ, false, List, Option, Some, None, refl, sym, ap, arith}
use Rattle.std.specs.Prelude.{option_map, if◌then◌else◌}
use Rattle.std.specs.Option.{option_map_or}
use Rattle.r9_geom.specs.declared.Point.{Point}
use Rattle.model_kept.specs.Cells.{cell_of, in_cell}
use Rattle.r9_locate.specs.locate.Forms.{Form}
use Rattle.r9_cells.specs.Cells.{all_rows, place_pixel}
use Rattle.r9_cells.specs.Rows.{cell_place}
use Rattle.r9_cells.proofs.Places.{tile_parts}
use Rattle.r9_pixels.specs.declared.own.Own.{Own}
use Rattle.r9_pixels.specs.declared.own.Own.TheVariants.{Whole, Hidden}
use Rattle.r9_pixels.specs.Owns.{form_in, has_in, kept_in, own_at, tile_in}
use Rattle.r9_pixels.proofs.Owning.{hidden_of, own_there}
use Rattle.r9_pixels.proofs.keeping.KeptPixels.in_tile.Goals as goal

pub extent-requires : goal.extent-requires
extent-requires c =
    let owns = c.args.self.now.owns.items in
    let found = hidden_of (own_at owns c.args.i) c.requires.window in
    let below = own_there owns c.args.i (Hidden found.0) found.1 in
    omega (arith, below, c.args.self.now.owns.ok.0)

pub unreachable-requires : goal.unreachable-requires
unreachable-requires c =
    let found = hidden_of (own_at c.args.self.now.owns.items c.args.i) c.requires.window in
    absurd (c.extent.ensures.none c.in-None.is found.0 found.1)

pub in_tile-requires-clause-near : goal.in_tile-requires-clause-near
in_tile-requires-clause-near c =
    let was = c.extent.ensures.some c.in-Some.extent c.in-Some.is in
    (c.args.self.now.tabled.windows c.args.i c.in-Some.extent was).near

pub in_tile-requires-clause-has : goal.in_tile-requires-clause-has
in_tile-requires-clause-has c =
    let was = c.extent.ensures.some c.in-Some.extent c.in-Some.is in
    sym (ap (λ o. option_map_or (has_in c.args.self.now.cells c.args.i c.args.p) o false) was) ∙ c.requires.has

pub returns-clause-tile : goal.returns-clause-tile
returns-clause-tile c =
    let was = c.extent.ensures.some c.in-Some.extent c.in-Some.is in
    ap (λ o. option_map_or (tile_in c.args.self.now.cells c.args.i c.args.p) o None) was ∙ c.in_tile.ensures.tile

pub returns-clause-at : goal.returns-clause-at
returns-clause-at c =
    let was = c.extent.ensures.some c.in-Some.extent c.in-Some.is in
    ap (λ (o : Option Own). option_map (λ (f : Form). in_cell f.r c.args.p) (option_map form_in o)) was ∙ ap (λ q. Some q) (sym c.in_tile.ensures.at)

pub returns-clause-pixel : goal.returns-clause-pixel
returns-clause-pixel c =
    let extent = c.in-Some.extent in
    let cells = c.args.self.now.cells in
    let was = c.extent.ensures.some extent c.in-Some.is in
    let has = sym (ap (λ o. option_map_or (has_in cells c.args.i c.args.p) o false) was) ∙ c.requires.has in
    let inside = (tile_parts (all_rows cells) c.args.i extent.r c.args.p has).0 in
    c.in_tile.ensures.pixel
    ∙ sym (ap (λ b. if b then place_pixel cells (cell_place c.args.i extent.r c.args.p) else 0) inside)
    ∙ sym (ap (λ o. option_map_or (kept_in cells c.args.i c.args.p) o 0) was)

pub returns-clause-alone : goal.returns-clause-alone
returns-clause-alone c j q at = by_own (own_at owns j) refl at
  where
    owns : List (Option Own)
    owns = c.args.self.now.owns.items

    was : own_at owns c.args.i ≡ Some (Hidden c.in-Some.extent)
    was = c.extent.ensures.some c.in-Some.extent c.in-Some.is

    cell : Option Own → Point → Option ℕ
    cell o p = option_map (λ (f : Form). cell_of f.r p) (option_map form_in o)

    by_own : (o : Option Own) → own_at owns j ≡ o → option_map_or (tile_in c.args.self.now.cells j q) o None ≡ Some c.in_tile.result.tile → (j ≡ c.args.i) × (cell (own_at owns j) q ≡ cell (own_at owns c.args.i) c.args.p)
    by_own None e at = absurd cc
    by_own (Some (Whole watched)) e at = absurd cc
    by_own (Some (Hidden other)) e at =
        let both = c.in_tile.ensures.alone j (cell_of other.r q) at in
        (both.0, ap (λ o. cell o q) e ∙ ap (λ n. Some n) both.1 ∙ sym (ap (λ o. cell o c.args.p) was))
