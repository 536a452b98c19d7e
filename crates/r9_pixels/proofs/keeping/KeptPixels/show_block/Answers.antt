use Rattle.std.proofs.Common.{◌≡◌, ◌∙◌, ◌<◌, ◌^◌, ℕ, true, false, length, Option, Some, refl, sym, subst, ap, arith}
use Rattle.std.specs.Option.{option_map_or}
use Rattle.r9_geom.specs.declared.Point.{Point}
use Rattle.r9_geom.specs.Geometry.{area_of, carried, holds}
use Rattle.model_pixel.specs.Channels.{depth}
use Rattle.r9_plane.specs.Pixels.{chan_of}
use Rattle.model_kept.specs.Keeping.{own}
use Rattle.r9_cells.specs.Cells.{all_rows, place_pixel}
use Rattle.r9_cells.specs.Rows.{cell_place, has_tile, CellPlace}
use Rattle.r9_pixels.specs.declared.own.Own.{Own}
use Rattle.r9_pixels.specs.declared.own.Own.TheVariants.{Whole}
use Rattle.r9_pixels.specs.Owns.{has_in, own_at}
use Rattle.r9_pixels.proofs.Areas.{carried_back, tiles_kept}
use Rattle.r9_pixels.proofs.Owning.{hidden_set, no_window, own_bits, own_is, own_there, tabled_set, whole_of, IsNoWindow}
use Rattle.r9_pixels.proofs.Wholes.{whole_at, whole_forms, whole_has, whole_others, IsPlaneWritten, whole_moments}
use Rattle.r9_pixels.proofs.Few.{few_written}
use Rattle.r9_pixels.proofs.keeping.KeptPixels.show_block.Given.{Over}
use Rattle.r9_pixels.proofs.keeping.KeptPixels.show_block.Goals as goal
use Rattle.r9_pixels.proofs.keeping.KeptPixels.show_block.Goals.{Start, In-Some-Whole}

below : (g : Over) (c : Start g) → c.args.to < length c.args.self.now.owns.items
below g c =
    let owns = c.args.self.now.owns.items in
    let found = whole_of (own_at owns c.args.to) c.requires.whole in
    own_there owns c.args.to (Whole found.0) found.1

was : (g : Over) (c : In-Some-Whole g) → c.args.to < length c.args.self.now.owns.items → own_at c.args.self.now.owns.items c.args.to ≡ Some (Whole c.in-Some-Whole.watched)
was g c there = own_is c.args.self.now.owns.items c.args.to c.index_mut.result.now there c.index_mut.ensures.value ∙ c.in-Some-Whole.is ∙ ap (λ o. Some o) c.in-Some-Whole.field-0-is

-- there is a tile for each
tiled : (g : Over) (c : Start g) (q : Point) → holds c.args.r.now q ≡ true → has_tile (all_rows c.args.self.now.cells) c.args.from c.args.extent.now.r q ≡ true
tiled g c q h = sym (ap (λ o. option_map_or (has_in c.args.self.now.cells c.args.from q) o false) c.requires.hidden) ∙ c.requires.can.had q h

pub index_mut-requires : goal.index_mut-requires
index_mut-requires g c = omega (arith, below g (goal.at.index_mut-requires g c).Start, c.args.self.now.owns.ok.0)

pub show_block-requires-clause-near : goal.show_block-requires-clause-near
show_block-requires-clause-near g c = (c.args.self.now.tabled.windows c.args.from c.args.extent.now c.requires.hidden).near

pub show_block-requires-clause-has : goal.show_block-requires-clause-has
show_block-requires-clause-has g c q h = tiled g (goal.at.show_block-requires-clause-has g c).Start q h

pub show_block-requires-clause-inside : goal.show_block-requires-clause-inside
show_block-requires-clause-inside g c q h =
    let at = goal.at.show_block-requires-clause-inside g c in
    sym (ap (λ o. option_map_or (has_in c.args.self.now.cells c.args.to (carried q c.args.r.now.min c.args.p)) o false) (was g at.In-Some-Whole (below g at.Start))) ∙ c.requires.can.has q h

pub show_block-requires-clause-below : goal.show_block-requires-clause-below
show_block-requires-clause-below g c q h =
    let at = goal.at.show_block-requires-clause-below g c in
    let place : CellPlace = cell_place c.args.from c.args.extent.now.r q in
    let small = c.args.self.now.bounded c.args.from place.cell place.at c.args.extent.now c.requires.hidden in
    let bits : depth c.args.extent.now.chan ≡ depth (chan_of c.in-Some-Whole.watched.plane) = sym (ap own_bits c.requires.hidden) ∙ c.requires.can.bits ∙ ap own_bits (was g at.In-Some-Whole (below g at.Start)) in
    omega (arith, small, ap (λ n. 2 ^ n) bits)

pub invariant_of-self : goal.invariant_of-self
invariant_of-self g c =
    let at = goal.at.invariant_of-self g c in
    let self = c.args.self.now in
    let owns = self.owns.items in
    let there = below g at.Start in
    let is = was g at.In-Some-Whole there in
    let new : Option Own = Some (Whole c.show_block.new.watched) in
    let old_none : IsNoWindow (own_at owns c.args.to) = subst IsNoWindow (sym is) (no_window c.in-Some-Whole.watched) in
    record {
      tabled = tabled_set owns c.args.to new (all_rows self.cells) there old_none (no_window c.show_block.new.watched) self.tabled;
      bounded = λ j l q extent is. self.bounded j l q extent (hidden_set owns c.args.to j new extent there (no_window c.show_block.new.watched) is).1;
      few = few_written owns c.args.to c.in-Some-Whole.watched c.show_block.new.watched c.args.self.now.writes.sum c.and-self.result.sum (area_of c.args.r.now) there is c.show_block.ensures.moment c.show_block.ensures.few (omega (arith, c.and-self.ensures)) c.args.self.now.few;
    }

pub returns-clause-carried : goal.returns-clause-carried
returns-clause-carried g c =
    let now = goal.at.returns-clause-carried g c in
    let self = c.args.self.now in
    let owns = self.owns.items in
    let r = c.args.r.now in
    let p = c.args.p in
    let extent = c.args.extent.now in
    let there = below g now.Start in
    let is = was g now.In-Some-Whole there in
    let old = c.in-Some-Whole.watched in
    let new = c.show_block.new.watched in
    let area = λ (q : Point). holds r (carried q p r.min) in
    let f : Point → ℕ = λ q. place_pixel self.cells (cell_place c.args.from extent.r (carried q p r.min)) in
    let written : IsPlaneWritten area f old new = record { rect = c.show_block.ensures.rect; chan = c.show_block.ensures.chan; pixels = c.show_block.ensures.pixels; moment = c.show_block.ensures.moment } in
    record {
      pixels = λ q h.
          whole_at owns self.cells c.args.to area f old new there written (carried q r.min p) (ap (holds r) (carried_back q r.min p) ∙ h)
          ∙ ap (λ x. place_pixel self.cells (cell_place c.args.from extent.r x)) (carried_back q r.min p)
          ∙ sym (tiles_kept owns self.cells self.cells c.args.from extent q c.requires.hidden (tiled g now.Start q h));
      others = λ place apart.
          whole_others owns self.cells c.args.to area f old new there is written place
          (λ q h same. apart (carried q p r.min) h (same ∙ ap (own c.args.to) (sym (carried_back q p r.min))));
      has = λ j place. whole_has owns self.cells c.args.to area f old new there is written place j;
      forms = λ j n. whole_forms owns c.args.to area f old new there is written n j;
      moment = λ j n. whole_moments owns c.args.to area f old new there is written n j;
      spare = refl;
    }
