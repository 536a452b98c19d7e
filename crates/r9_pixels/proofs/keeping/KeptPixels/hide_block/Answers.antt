use Rattle.std.proofs.Common.{◌≡◌, ◌∙◌, ◌<◌, ◌^◌, ℕ, true, false, length, Some, refl, sym, subst, ap, arith}
use Rattle.std.specs.Option.{option_map_or}
use Rattle.r9_geom.specs.declared.Point.{Point}
use Rattle.r9_geom.specs.declared.Rect.{Rect}
use Rattle.r9_geom.specs.Geometry.{at_min, carried, holds, HasPoints, IsOrdered, IsRectNear}
use Rattle.model_pixel.specs.Channels.{depth}
use Rattle.r9_plane.specs.Pixels.{chan_of, pixel_at, rect_of}
use Rattle.model_kept.specs.Keeping.{own}
use Rattle.r9_cells.specs.Cells.{all_rows}
use Rattle.r9_cells.specs.Rows.{has_tile}
use Rattle.r9_cells.proofs.Areas.{same_there}
use Rattle.r9_cells.proofs.Places.{tile_parts}
use Rattle.r9_pixels.specs.declared.own.Own.TheVariants.{Whole}
use Rattle.r9_pixels.specs.Owns.{has_in, kept_in, own_at, IsTabled}
use Rattle.r9_pixels.proofs.Areas.{carried_back, moved_back, moved_holds, moved_ordered, moved_points, part_near, tiles_bounded, tiles_has, tiles_kept, tiles_others, IsTilesWritten}
use Rattle.r9_pixels.proofs.Owning.{own_bits, own_is, own_there, whole_of}
use Rattle.r9_pixels.proofs.Few.{few_same}
use Rattle.r9_pixels.proofs.keeping.KeptPixels.hide_block.Given.{Over}
use Rattle.r9_pixels.proofs.keeping.KeptPixels.hide_block.Goals as goal
use Rattle.r9_pixels.proofs.keeping.KeptPixels.hide_block.Goals.{Start}

below : (g : Over) (c : Start g) → c.args.from < length c.args.self.now.owns.items
below g c =
    let owns = c.args.self.now.owns.items in
    let found = whole_of (own_at owns c.args.from) c.requires.whole in
    own_there owns c.args.from (Whole found.0) found.1

-- there is a tile for each
tiled : (g : Over) (c : Start g) (q : Point) → holds (at_min c.args.r.now c.args.p) q ≡ true → has_tile (all_rows c.args.self.now.cells) c.args.to c.args.extent.now.r q ≡ true
tiled g c q h =
    let r = c.args.r.now in
    let back = carried q c.args.p r.min in
    let has = c.requires.can.has back (moved_back r c.args.p q h) in
    sym (ap (λ o. option_map_or (has_in c.args.self.now.cells c.args.to q) o false) c.requires.hidden)
    ∙ ap (λ x. option_map_or (has_in c.args.self.now.cells c.args.to x) (own_at c.args.self.now.owns.items c.args.to) false) (sym (carried_back q c.args.p r.min))
    ∙ has

pub index-requires : goal.index-requires
index-requires g c = omega (arith, below g (goal.at.index-requires g c).Start, c.args.self.now.owns.ok.0)

pub hide_block-requires-clause-near : goal.hide_block-requires-clause-near
hide_block-requires-clause-near g c = (c.args.self.now.tabled.windows c.args.to c.args.extent.now c.requires.hidden).near

pub hide_block-requires-clause-also : goal.hide_block-requires-clause-also
hide_block-requires-clause-also g c =
    let at = goal.at.hide_block-requires-clause-also g c in
    let r = c.args.r.now in
    let extent = c.args.extent.now in
    subst IsRectNear (sym c.at_min-there.ensures)
    (part_near extent.r (at_min r c.args.p) (moved_points r c.args.p c.requires.some)
    (λ q h. (tile_parts (all_rows c.args.self.now.cells) c.args.to extent.r q (tiled g at.Start q h)).0)
    (c.args.self.now.tabled.windows c.args.to extent c.requires.hidden).near)

pub hide_block-requires-clause-ordered : goal.hide_block-requires-clause-ordered
hide_block-requires-clause-ordered g c = subst IsOrdered (sym c.at_min-there.ensures) (moved_ordered c.args.r.now c.args.p c.requires.ordered)

pub hide_block-requires-clause-some : goal.hide_block-requires-clause-some
hide_block-requires-clause-some g c = subst HasPoints (sym c.at_min-there.ensures) (moved_points c.args.r.now c.args.p c.requires.some)

pub hide_block-requires-clause-has : goal.hide_block-requires-clause-has
hide_block-requires-clause-has g c q h =
    tiled g (goal.at.hide_block-requires-clause-has g c).Start q (ap (λ (b : Rect). holds b q) (sym c.at_min-there.ensures) ∙ h)

pub hide_block-requires-clause-inside : goal.hide_block-requires-clause-inside
hide_block-requires-clause-inside g c q h =
    let at = goal.at.hide_block-requires-clause-inside g c in
    let r = c.args.r.now in
    let there = below g at.Start in
    let was : own_at c.args.self.now.owns.items c.args.from ≡ Some (Whole c.in-Whole.watched) = own_is c.args.self.now.owns.items c.args.from c.index.result.now there c.index.ensures ∙ c.in-Some.is ∙ ap (λ o. Some o) c.in-Whole.is in
    let back = moved_back r c.args.p q (ap (λ (b : Rect). holds b q) (sym c.at_min-there.ensures) ∙ h) in
    ap (λ (b : Rect). holds (rect_of c.in-Whole.watched.plane) (carried q b.min r.min)) c.at_min-there.ensures
    ∙ sym (ap (λ o. option_map_or (has_in c.args.self.now.cells c.args.from (carried q c.args.p r.min)) o false) was) ∙ c.requires.can.had (carried q c.args.p r.min) back

pub invariant_of-self : goal.invariant_of-self
invariant_of-self g c =
    let at = goal.at.invariant_of-self g c in
    let self = c.args.self.now in
    let r = c.args.r.now in
    let extent = c.args.extent.now in
    let plane = c.in-Whole.watched.plane in
    let there = below g at.Start in
    let was : own_at self.owns.items c.args.from ≡ Some (Whole c.in-Whole.watched) = own_is self.owns.items c.args.from c.index.result.now there c.index.ensures ∙ c.in-Some.is ∙ ap (λ o. Some o) c.in-Whole.is in
    let block = c.at_min-there.result in
    let value : Point → ℕ = λ q. pixel_at plane (carried q block.min r.min) in
    let written : IsTilesWritten c.args.to extent.r block value self.cells c.hide_block.new.self = record { at = c.hide_block.ensures.at; others = c.hide_block.ensures.others } in
    let bits : depth (chan_of plane) ≡ depth extent.chan = sym (ap own_bits was) ∙ c.requires.can.bits ∙ ap own_bits c.requires.hidden in
    record {
      tabled = subst (IsTabled self.owns.items) (sym c.hide_block.ensures.rows) self.tabled;
      bounded =
          tiles_bounded self.owns.items self.cells c.hide_block.new.self c.args.to extent block value c.requires.hidden written
          (λ q h. subst (λ (n : ℕ). value q < 2 ^ n) bits (c.hide_block.ensures.below q h))
          self.bounded;
      few = few_same c.args.self.now.owns.items c.args.self.now.owns.items c.args.self.now.writes.sum c.and-self.result.sum (omega (arith, c.and-self.ensures)) (λ j watched is. is) c.args.self.now.few;
    }

pub returns-clause-carried : goal.returns-clause-carried
returns-clause-carried g c =
    let at = goal.at.returns-clause-carried g c in
    let self = c.args.self.now in
    let new = c.hide_block.new.self in
    let r = c.args.r.now in
    let p = c.args.p in
    let extent = c.args.extent.now in
    let plane = c.in-Whole.watched.plane in
    let there = below g at.Start in
    let was : own_at self.owns.items c.args.from ≡ Some (Whole c.in-Whole.watched) = own_is self.owns.items c.args.from c.index.result.now there c.index.ensures ∙ c.in-Some.is ∙ ap (λ o. Some o) c.in-Whole.is in
    let block = c.at_min-there.result in
    let value : Point → ℕ = λ q. pixel_at plane (carried q block.min r.min) in
    let written : IsTilesWritten c.args.to extent.r block value self.cells new = record { at = c.hide_block.ensures.at; others = c.hide_block.ensures.others } in
    record {
      pixels = λ q h.
          let there = carried q r.min p in
          let inside = moved_holds r p q h in
          tiles_kept self.owns.items self.cells new c.args.to extent there c.requires.hidden (tiled g at.Start there inside)
          ∙ c.hide_block.ensures.at there (ap (λ (b : Rect). holds b there) c.at_min-there.ensures ∙ inside)
          ∙ ap (λ (b : Rect). pixel_at plane (carried there b.min r.min)) c.at_min-there.ensures
          ∙ ap (pixel_at plane) (carried_back q r.min p)
          ∙ sym (ap (λ o. option_map_or (kept_in self.cells c.args.from q) o 0) was);
      others = λ place apart.
          tiles_others self.owns.items self.cells new c.args.to extent block value c.requires.hidden
          (λ q h. tiled g at.Start q (ap (λ (b : Rect). holds b q) (sym c.at_min-there.ensures) ∙ h))
          written place
          (λ q h same.
          let inside = ap (λ (b : Rect). holds b q) (sym c.at_min-there.ensures) ∙ h in
          apart (carried q p r.min) (moved_back r p q inside) (same ∙ ap (own c.args.to) (sym (carried_back q p r.min))));
      has = λ j place. tiles_has self.owns.items self.cells new c.hide_block.ensures.rows place j;
      forms = refl;
      moment = refl;
      spare = c.hide_block.ensures.spare;
    }

pub returns-clause-steps : goal.returns-clause-steps
returns-clause-steps g c = same_there c.args.r.now c.at_min-there.result c.args.p c.args.steps.now c.hide_block.new.steps c.at_min-there.ensures c.hide_block.ensures.steps

pub returns-clause-writes : goal.returns-clause-writes
returns-clause-writes g c =
    let steps = same_there c.args.r.now c.at_min-there.result c.args.p c.args.steps.now c.hide_block.new.steps c.at_min-there.ensures c.hide_block.ensures.steps in
    omega (arith, c.and-self.ensures, steps)
