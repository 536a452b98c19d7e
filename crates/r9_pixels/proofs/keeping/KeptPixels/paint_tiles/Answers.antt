use Rattle.std.proofs.Common.{◌≡◌, ◌∙◌, ◌<◌, ◌^◌, ℕ, true, false, sym, subst, ap, arith}
use Rattle.std.specs.Option.{option_map_or}
use Rattle.r9_geom.specs.declared.Point.{Point}
use Rattle.r9_geom.specs.Geometry.{holds}
use Rattle.r9_cells.specs.Cells.{all_rows}
use Rattle.r9_cells.specs.Rows.{has_tile}
use Rattle.r9_pixels.specs.Owns.{has_in, IsTabled}
use Rattle.r9_pixels.proofs.Areas.{tiles_bounded, tiles_has, tiles_kept, tiles_others, IsTilesWritten}
use Rattle.r9_pixels.proofs.Owning.{own_bits}
use Rattle.r9_pixels.proofs.Few.{few_same}
use Rattle.r9_pixels.proofs.keeping.KeptPixels.paint_tiles.Goals as goal

pub fill_block-requires-clause-near : goal.fill_block-requires-clause-near
fill_block-requires-clause-near g c = (c.args.self.now.tabled.windows c.args.i c.args.extent.now c.requires.hidden).near

pub fill_block-requires-clause-has : goal.fill_block-requires-clause-has
fill_block-requires-clause-has g c p h = sym (ap (λ o. option_map_or (has_in c.args.self.now.cells c.args.i p) o false) c.requires.hidden) ∙ c.requires.has p h

pub invariant_of-self : goal.invariant_of-self
invariant_of-self g c =
    let self = c.args.self.now in
    let extent = c.args.extent.now in
    let value : Point → ℕ = λ q. c.args.raw in
    let written : IsTilesWritten c.args.i extent.r c.args.r.now value self.cells c.fill_block.new.self = record { at = c.fill_block.ensures.at; others = c.fill_block.ensures.others } in
    record {
      tabled = subst (IsTabled self.owns.items) (sym c.fill_block.ensures.rows) self.tabled;
      bounded =
          tiles_bounded self.owns.items self.cells c.fill_block.new.self c.args.i extent c.args.r.now value c.requires.hidden written
          (λ p h. let small = c.requires.below in let bits = ap (λ o. 2 ^ own_bits o) c.requires.hidden in omega (arith, small, bits))
          self.bounded;
      few = few_same c.args.self.now.owns.items c.args.self.now.owns.items c.args.self.now.writes.sum c.and-self.result.sum (omega (arith, c.and-self.ensures)) (λ j watched is. is) c.args.self.now.few;
    }

pub returns-clause-at : goal.returns-clause-at
returns-clause-at g c p h =
    let self = c.args.self.now in
    let has : has_tile (all_rows self.cells) c.args.i c.args.extent.now.r p ≡ true = sym (ap (λ o. option_map_or (has_in self.cells c.args.i p) o false) c.requires.hidden) ∙ c.requires.has p h in
    tiles_kept self.owns.items self.cells c.fill_block.new.self c.args.i c.args.extent.now p c.requires.hidden has ∙ c.fill_block.ensures.at p h

pub returns-clause-others : goal.returns-clause-others
returns-clause-others g c place apart =
    let self = c.args.self.now in
    let extent = c.args.extent.now in
    let value : Point → ℕ = λ q. c.args.raw in
    let written : IsTilesWritten c.args.i extent.r c.args.r.now value self.cells c.fill_block.new.self = record { at = c.fill_block.ensures.at; others = c.fill_block.ensures.others } in
    tiles_others self.owns.items self.cells c.fill_block.new.self c.args.i extent c.args.r.now value c.requires.hidden
    (λ p h. sym (ap (λ o. option_map_or (has_in self.cells c.args.i p) o false) c.requires.hidden) ∙ c.requires.has p h)
    written place apart

pub returns-clause-has : goal.returns-clause-has
returns-clause-has g c = λ j place. tiles_has c.args.self.now.owns.items c.args.self.now.cells c.fill_block.new.self c.fill_block.ensures.rows place j
