use Rattle.std.proofs.Common.{◌≡◌, ◌∙◌, ◌<◌, ◌^◌, ℕ, true, false, length, Option, Some, None, ⊎_elim, refl, sym, subst, ap, arith}
use Rattle.std.specs.Prelude.{if◌then◌else◌}
use Rattle.std.specs.Option.{option_map_or}
use Rattle.std.proofs.lemmas.Bool.{cases_Bool, false≢true}
use Rattle.r9_geom.specs.Geometry.{holds}
use Rattle.model_pixel.specs.Channels.{depth}
use Rattle.r9_plane.specs.Pixels.{along, chan_of, pixel_at}
use Rattle.r9_cells.specs.Cells.{all_rows, cell_pixel, place_pixel}
use Rattle.r9_cells.specs.Rows.{cell_place, has_tile, CellPlace}
use Rattle.r9_cells.proofs.Places.{place_injective, tile_parts}
use Rattle.r9_pixels.specs.declared.own.Extent.{Extent}
use Rattle.r9_pixels.specs.declared.own.Own.{Own}
use Rattle.r9_pixels.specs.declared.own.Own.TheVariants.{Whole, Hidden}
use Rattle.r9_pixels.specs.Owns.{has_in, kept_in, own_at, IsTabled}
use Rattle.r9_pixels.proofs.Owning.{by_search, extent_is, is_place, own_bits, own_is, own_there, place_true, true_place, whole_of}
use Rattle.r9_pixels.proofs.Areas.{tiles_has}
use Rattle.r9_pixels.proofs.Few.{few_same}
use Rattle.r9_pixels.proofs.keeping.KeptPixels.hide.Given.{Over}
use Rattle.r9_pixels.proofs.keeping.KeptPixels.hide.Goals as goal
use Rattle.r9_pixels.proofs.keeping.KeptPixels.hide.Goals.{Start}

below : (g : Over) (c : Start g) → c.args.from < length c.args.self.now.owns.items
below g c =
    let owns = c.args.self.now.owns.items in
    let found = whole_of (own_at owns c.args.from) c.requires.whole in
    own_there owns c.args.from (Whole found.0) found.1

-- there is a tile for each
tiled : (g : Over) (c : Start g) (k : ℕ) → k < c.args.n → has_tile (all_rows c.args.self.now.cells) c.args.to c.args.extent.r (along c.args.p k) ≡ true
tiled g c k lower = sym (ap (λ o. option_map_or (has_in c.args.self.now.cells c.args.to (along c.args.p k)) o false) c.requires.hidden) ∙ c.requires.can.has k lower

pub index-requires : goal.index-requires
index-requires g c = omega (arith, below g (goal.at.index-requires g c).Start, c.args.self.now.owns.ok.0)

pub hide-requires-clause-near : goal.hide-requires-clause-near
hide-requires-clause-near g c = (c.args.self.now.tabled.windows c.args.to c.args.extent c.requires.hidden).near

pub hide-requires-clause-has : goal.hide-requires-clause-has
hide-requires-clause-has g c k lower = tiled g (goal.at.hide-requires-clause-has g c).Start k lower

pub hide-requires-clause-inside : goal.hide-requires-clause-inside
hide-requires-clause-inside g c k lower =
    let at = goal.at.hide-requires-clause-inside g c in
    let there = below g at.Start in
    let was : own_at c.args.self.now.owns.items c.args.from ≡ Some (Whole c.in-Whole.watched) = own_is c.args.self.now.owns.items c.args.from c.index.result.now there c.index.ensures ∙ c.in-Some.is ∙ ap (λ o. Some o) c.in-Whole.is in
    sym (ap (λ o. option_map_or (has_in c.args.self.now.cells c.args.from (along c.args.at k)) o false) was) ∙ c.requires.can.had k lower

pub invariant_of-self : goal.invariant_of-self
invariant_of-self g c =
    let at = goal.at.invariant_of-self g c in
    let there = below g at.Start in
    let was : own_at c.args.self.now.owns.items c.args.from ≡ Some (Whole c.in-Whole.watched) = own_is c.args.self.now.owns.items c.args.from c.index.result.now there c.index.ensures ∙ c.in-Some.is ∙ ap (λ o. Some o) c.in-Whole.is in
    let self = c.args.self.now in
    let plane = c.in-Whole.watched.plane in
    record {
      tabled = subst (IsTabled self.owns.items) (sym c.hide.ensures.rows) self.tabled;
      bounded = λ j l q extent is.
          let place : CellPlace = record { image = j; cell = l; at = q } in
          let there = λ (k : ℕ). cell_place c.args.to c.args.extent.r (along c.args.p k) in
          by_search c.args.n (λ k. is_place place (there k))
          (λ k lower e.
          let same = place_true place (there k) e in
          let image : j ≡ c.args.to = ap (λ (p : CellPlace). p.image) same in
          let one : c.args.extent ≡ extent = extent_is c.args.extent extent (sym c.requires.hidden ∙ ap (own_at self.owns.items) (sym image) ∙ is) in
          let value : cell_pixel c.hide.new.self j l q ≡ pixel_at plane (along c.args.at k) = ap (place_pixel c.hide.new.self) same ∙ c.hide.ensures.at k lower in
          let bits : depth (chan_of plane) ≡ depth extent.chan = sym (ap own_bits was) ∙ c.requires.can.bits ∙ ap own_bits c.requires.hidden ∙ ap (λ (e : Extent). depth e.chan) one in
          omega (arith, value, ap (λ n. 2 ^ n) bits, c.hide.ensures.below k lower))
          (λ none.
          let still : cell_pixel c.hide.new.self j l q ≡ cell_pixel self.cells j l q = c.hide.ensures.others place (λ k lower same. false≢true (sym (none k lower) ∙ true_place place (there k) same)) in
          omega (arith, still, self.bounded j l q extent is));
      few = few_same c.args.self.now.owns.items c.args.self.now.owns.items c.args.self.now.writes.sum c.and-self.result.sum (omega (arith, c.and-self.ensures)) (λ j watched is. is) c.args.self.now.few;
    }

pub returns-clause-pixels : goal.returns-clause-pixels
returns-clause-pixels g c k lower =
    let at = goal.at.returns-clause-pixels g c in
    let there = below g at.Start in
    let was : own_at c.args.self.now.owns.items c.args.from ≡ Some (Whole c.in-Whole.watched) = own_is c.args.self.now.owns.items c.args.from c.index.result.now there c.index.ensures ∙ c.in-Some.is ∙ ap (λ o. Some o) c.in-Whole.is in
    let self = c.args.self.now in
    let inside = (tile_parts (all_rows self.cells) c.args.to c.args.extent.r (along c.args.p k) (tiled g at.Start k lower)).0 in
    ap (λ o. option_map_or (kept_in c.hide.new.self c.args.to (along c.args.p k)) o 0) c.requires.hidden
    ∙ ap (λ b. if b then place_pixel c.hide.new.self (cell_place c.args.to c.args.extent.r (along c.args.p k)) else 0) inside
    ∙ c.hide.ensures.at k lower
    ∙ sym (ap (λ o. option_map_or (kept_in self.cells c.args.from (along c.args.at k)) o 0) was)

pub returns-clause-others : goal.returns-clause-others
returns-clause-others g c place apart =
    by_own (own_at c.args.self.now.owns.items place.image) refl
  where
    by_own : (o : Option Own) → own_at c.args.self.now.owns.items place.image ≡ o → option_map_or (kept_in c.hide.new.self place.image place.at) o 0 ≡ option_map_or (kept_in c.args.self.now.cells place.image place.at) o 0
    by_own None is = refl
    by_own (Some (Whole watched)) is = refl
    by_own (Some (Hidden extent)) is =
        ⊎_elim
        (λ (inside : holds extent.r place.at ≡ true).
        ap (λ b. if b then place_pixel c.hide.new.self (cell_place place.image extent.r place.at) else 0) inside
        ∙ c.hide.ensures.others (cell_place place.image extent.r place.at)
        (λ k lower same.
        let image : place.image ≡ c.args.to = ap (λ (p : CellPlace). p.image) same in
        let one : extent ≡ c.args.extent = extent_is extent c.args.extent (sym is ∙ ap (own_at c.args.self.now.owns.items) image ∙ c.requires.hidden) in
        let there = (tile_parts (all_rows c.args.self.now.cells) c.args.to c.args.extent.r (along c.args.p k) (tiled g (goal.at.returns-clause-others g c).Start k lower)).0 in
        let here : holds c.args.extent.r place.at ≡ true = ap (λ (e : Extent). holds e.r place.at) (sym one) ∙ inside in
        let both : cell_place c.args.to c.args.extent.r place.at ≡ cell_place c.args.to c.args.extent.r (along c.args.p k) = sym (λ j. cell_place (image j) (one j).r place.at) ∙ same in
        let at = place_injective c.args.to c.args.extent.r place.at (along c.args.p k) here there both in
        apart k lower (λ j. record { image = image j; at = at j }))
        ∙ sym (ap (λ b. if b then place_pixel c.args.self.now.cells (cell_place place.image extent.r place.at) else 0) inside))
        (λ (outside : holds extent.r place.at ≡ false).
        ap (λ b. if b then place_pixel c.hide.new.self (cell_place place.image extent.r place.at) else 0) outside
        ∙ sym (ap (λ b. if b then place_pixel c.args.self.now.cells (cell_place place.image extent.r place.at) else 0) outside))
        (cases_Bool (holds extent.r place.at))

pub returns-clause-has : goal.returns-clause-has
returns-clause-has g c = λ j place. tiles_has c.args.self.now.owns.items c.args.self.now.cells c.hide.new.self c.hide.ensures.rows place j
