use Rattle.std.proofs.Common.{◌≡◌, ◌∙◌, ◌<◌, ◌^◌, ℕ, true, false, length, Option, Some, sym, subst, ap, arith}
use Rattle.std.specs.Prelude.{if◌then◌else◌}
use Rattle.std.specs.Option.{option_map_or}
use Rattle.r9_geom.specs.declared.Point.{Point}
use Rattle.r9_geom.specs.Geometry.{carried, holds, strip}
use Rattle.model_pixel.specs.Channels.{depth}
use Rattle.r9_plane.specs.Pixels.{along, chan_of}
use Rattle.r9_plane.proofs.PlaneLemmas.{along_holds}
use Rattle.model_kept.specs.Keeping.{own}
use Rattle.r9_locate.proofs.locate.Locating.{strip_at}
use Rattle.r9_cells.specs.Cells.{all_rows, place_pixel}
use Rattle.r9_cells.specs.Rows.{cell_place, has_tile, CellPlace}
use Rattle.r9_cells.proofs.Carried.{carried_along}
use Rattle.r9_cells.proofs.Places.{tile_parts}
use Rattle.r9_pixels.specs.declared.own.Own.{Own}
use Rattle.r9_pixels.specs.declared.own.Own.TheVariants.{Whole}
use Rattle.r9_pixels.specs.Owns.{has_in, kept_in, own_at}
use Rattle.r9_pixels.proofs.Owning.{hidden_set, no_window, own_bits, own_is, own_there, tabled_set, whole_of, IsNoWindow}
use Rattle.r9_pixels.proofs.Wholes.{whole_at, whole_forms, whole_has, whole_others, IsPlaneWritten, whole_moments}
use Rattle.r9_pixels.proofs.Few.{few_written}
use Rattle.r9_pixels.proofs.keeping.KeptPixels.show.Given.{Over}
use Rattle.r9_pixels.proofs.keeping.KeptPixels.show.Goals as goal
use Rattle.r9_pixels.proofs.keeping.KeptPixels.show.Goals.{Start, In-Some-Whole}

below : (g : Over) (c : Start g) → c.args.to < length c.args.self.now.owns.items
below g c =
    let owns = c.args.self.now.owns.items in
    let found = whole_of (own_at owns c.args.to) c.requires.whole in
    own_there owns c.args.to (Whole found.0) found.1

was : (g : Over) (c : In-Some-Whole g) → c.args.to < length c.args.self.now.owns.items → own_at c.args.self.now.owns.items c.args.to ≡ Some (Whole c.in-Some-Whole.watched)
was g c there = own_is c.args.self.now.owns.items c.args.to c.index_mut.result.now there c.index_mut.ensures.value ∙ c.in-Some-Whole.is ∙ ap (λ o. Some o) c.in-Some-Whole.field-0-is

-- there is a tile for each
tiled : (g : Over) (c : Start g) (k : ℕ) → k < c.args.n → has_tile (all_rows c.args.self.now.cells) c.args.from c.args.extent.r (along c.args.at k) ≡ true
tiled g c k lower = sym (ap (λ o. option_map_or (has_in c.args.self.now.cells c.args.from (along c.args.at k)) o false) c.requires.hidden) ∙ c.requires.can.had k lower

pub index_mut-requires : goal.index_mut-requires
index_mut-requires g c = omega (arith, below g (goal.at.index_mut-requires g c).Start, c.args.self.now.owns.ok.0)

pub show-requires-clause-near : goal.show-requires-clause-near
show-requires-clause-near g c = (c.args.self.now.tabled.windows c.args.from c.args.extent c.requires.hidden).near

pub show-requires-clause-has : goal.show-requires-clause-has
show-requires-clause-has g c k lower = tiled g (goal.at.show-requires-clause-has g c).Start k lower

pub show-requires-clause-inside : goal.show-requires-clause-inside
show-requires-clause-inside g c k lower =
    let at = goal.at.show-requires-clause-inside g c in
    sym (ap (λ o. option_map_or (has_in c.args.self.now.cells c.args.to (along c.args.p k)) o false) (was g at.In-Some-Whole (below g at.Start))) ∙ c.requires.can.has k lower

pub show-requires-clause-below : goal.show-requires-clause-below
show-requires-clause-below g c k lower =
    let at = goal.at.show-requires-clause-below g c in
    let place : CellPlace = cell_place c.args.from c.args.extent.r (along c.args.at k) in
    let small = c.args.self.now.bounded c.args.from place.cell place.at c.args.extent c.requires.hidden in
    let bits : depth c.args.extent.chan ≡ depth (chan_of c.in-Some-Whole.watched.plane) = sym (ap own_bits c.requires.hidden) ∙ c.requires.can.bits ∙ ap own_bits (was g at.In-Some-Whole (below g at.Start)) in
    omega (arith, small, ap (λ n. 2 ^ n) bits)

pub invariant_of-self : goal.invariant_of-self
invariant_of-self g c =
    let at = goal.at.invariant_of-self g c in
    let self = c.args.self.now in
    let owns = self.owns.items in
    let there = below g at.Start in
    let is = was g at.In-Some-Whole there in
    let new : Option Own = Some (Whole c.show.new.watched) in
    let old_none : IsNoWindow (own_at owns c.args.to) = subst IsNoWindow (sym is) (no_window c.in-Some-Whole.watched) in
    record {
      tabled = tabled_set owns c.args.to new (all_rows self.cells) there old_none (no_window c.show.new.watched) self.tabled;
      bounded = λ j l q extent is. self.bounded j l q extent (hidden_set owns c.args.to j new extent there (no_window c.show.new.watched) is).1;
      few = few_written owns c.args.to c.in-Some-Whole.watched c.show.new.watched c.args.self.now.writes.sum c.and-self.result.sum (c.args.n) there is c.show.ensures.moment c.show.ensures.few (omega (arith, c.and-self.ensures)) c.args.self.now.few;
    }

pub returns-clause-pixels : goal.returns-clause-pixels
returns-clause-pixels g c k lower =
    let now = goal.at.returns-clause-pixels g c in
    let self = c.args.self.now in
    let owns = self.owns.items in
    let there = below g now.Start in
    let old = c.in-Some-Whole.watched in
    let new = c.show.new.watched in
    let area = holds (strip c.args.p c.args.n) in
    let f : Point → ℕ = λ q. place_pixel self.cells (cell_place c.args.from c.args.extent.r (carried q c.args.p c.args.at)) in
    let written : IsPlaneWritten area f old new = record { rect = c.show.ensures.rect; chan = c.show.ensures.chan; pixels = c.show.ensures.pixels; moment = c.show.ensures.moment } in
    let inside = (tile_parts (all_rows self.cells) c.args.from c.args.extent.r (along c.args.at k) (tiled g now.Start k lower)).0 in
    whole_at owns self.cells c.args.to area f old new there written (along c.args.p k) (along_holds c.args.p c.args.n k lower)
    ∙ ap (λ q. place_pixel self.cells (cell_place c.args.from c.args.extent.r q)) (carried_along c.args.p c.args.at k)
    ∙ sym (ap (λ b. if b then place_pixel self.cells (cell_place c.args.from c.args.extent.r (along c.args.at k)) else 0) inside)
    ∙ sym (ap (λ o. option_map_or (kept_in self.cells c.args.from (along c.args.at k)) o 0) c.requires.hidden)

pub returns-clause-others : goal.returns-clause-others
returns-clause-others g c place apart =
    let now = goal.at.returns-clause-others g c in
    let self = c.args.self.now in
    let owns = self.owns.items in
    let there = below g now.Start in
    let old = c.in-Some-Whole.watched in
    let new = c.show.new.watched in
    let area = holds (strip c.args.p c.args.n) in
    let f : Point → ℕ = λ q. place_pixel self.cells (cell_place c.args.from c.args.extent.r (carried q c.args.p c.args.at)) in
    let written : IsPlaneWritten area f old new = record { rect = c.show.ensures.rect; chan = c.show.ensures.chan; pixels = c.show.ensures.pixels; moment = c.show.ensures.moment } in
    whole_others owns self.cells c.args.to area f old new there (was g now.In-Some-Whole there) written place
    (λ q h is. let found = strip_at c.args.p q c.args.n h in apart found.0 found.1 (is ∙ ap (own c.args.to) found.2))

pub returns-clause-has : goal.returns-clause-has
returns-clause-has g c =
    let now = goal.at.returns-clause-has g c in
    let self = c.args.self.now in
    let owns = self.owns.items in
    let there = below g now.Start in
    let old = c.in-Some-Whole.watched in
    let new = c.show.new.watched in
    let area = holds (strip c.args.p c.args.n) in
    let f : Point → ℕ = λ q. place_pixel self.cells (cell_place c.args.from c.args.extent.r (carried q c.args.p c.args.at)) in
    let written : IsPlaneWritten area f old new = record { rect = c.show.ensures.rect; chan = c.show.ensures.chan; pixels = c.show.ensures.pixels; moment = c.show.ensures.moment } in
    λ j place. whole_has owns self.cells c.args.to area f old new there (was g now.In-Some-Whole there) written place j

pub returns-clause-forms : goal.returns-clause-forms
returns-clause-forms g c =
    let now = goal.at.returns-clause-forms g c in
    let self = c.args.self.now in
    let owns = self.owns.items in
    let there = below g now.Start in
    let old = c.in-Some-Whole.watched in
    let new = c.show.new.watched in
    let area = holds (strip c.args.p c.args.n) in
    let f : Point → ℕ = λ q. place_pixel self.cells (cell_place c.args.from c.args.extent.r (carried q c.args.p c.args.at)) in
    let written : IsPlaneWritten area f old new = record { rect = c.show.ensures.rect; chan = c.show.ensures.chan; pixels = c.show.ensures.pixels; moment = c.show.ensures.moment } in
    λ j n. whole_forms owns c.args.to area f old new there (was g now.In-Some-Whole there) written n j

pub returns-clause-moment : goal.returns-clause-moment
returns-clause-moment g c =
    let now = goal.at.returns-clause-moment g c in
    let self = c.args.self.now in
    let owns = self.owns.items in
    let there = below g now.Start in
    let old = c.in-Some-Whole.watched in
    let new = c.show.new.watched in
    let area = holds (strip c.args.p c.args.n) in
    let f : Point → ℕ = λ q. place_pixel self.cells (cell_place c.args.from c.args.extent.r (carried q c.args.p c.args.at)) in
    let written : IsPlaneWritten area f old new = record { rect = c.show.ensures.rect; chan = c.show.ensures.chan; pixels = c.show.ensures.pixels; moment = c.show.ensures.moment } in
    λ j n. whole_moments owns c.args.to area f old new there (was g now.In-Some-Whole there) written n j
