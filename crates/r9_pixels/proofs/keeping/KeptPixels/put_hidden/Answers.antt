use Rattle.std.proofs.Common.{◌≡◌, ◌∙◌, ◌<◌, ◌^◌, ℕ, true, false, length, Option, Some, None, ⊎_elim, refl, sym, subst, ap, arith}
use Rattle.std.specs.Prelude.{slice_index, if◌then◌else◌}
use Rattle.std.specs.Option.{option_map_or}
use Rattle.std.proofs.lemmas.Bool.{cases_Bool, false≢true}
use Rattle.r9_geom.specs.Geometry.{holds}
use Rattle.model_pixel.specs.Channels.{depth}
use Rattle.r9_plane.specs.Pixels.{along}
use Rattle.r9_locate.specs.locate.Forms.{bits_in}
use Rattle.r9_cells.specs.Cells.{all_rows, cell_pixel, place_pixel}
use Rattle.r9_cells.specs.Rows.{cell_place, has_tile, CellPlace}
use Rattle.r9_cells.proofs.Places.{place_injective, tile_parts}
use Rattle.r9_pixels.specs.declared.own.Extent.{Extent}
use Rattle.r9_pixels.specs.declared.own.Own.{Own}
use Rattle.r9_pixels.specs.declared.own.Own.TheVariants.{Whole, Hidden}
use Rattle.r9_pixels.specs.Kept.{form_at}
use Rattle.r9_pixels.specs.Owns.{has_in, kept_in, own_at, IsTabled}
use Rattle.r9_pixels.proofs.Owning.{by_search, extent_is, is_place, own_bits, place_true, true_place}
use Rattle.r9_pixels.proofs.Few.{few_same}
use Rattle.r9_pixels.proofs.keeping.KeptPixels.put_hidden.Given.{Over}
use Rattle.r9_pixels.proofs.keeping.KeptPixels.put_hidden.Goals as goal
use Rattle.r9_pixels.proofs.keeping.KeptPixels.put_hidden.Goals.{Start}

tiled : (g : Over) (c : Start g) (k : ℕ) → k < length c.args.raws.now → has_tile (all_rows c.args.self.now.cells) c.args.i c.args.extent.r (along c.args.at k) ≡ true
tiled g c k below = sym (ap (λ o. option_map_or (has_in c.args.self.now.cells c.args.i (along c.args.at k)) o false) c.requires.hidden) ∙ c.requires.has k below

pub write-requires-clause-near : goal.write-requires-clause-near
write-requires-clause-near g c = (c.args.self.now.tabled.windows c.args.i c.args.extent c.requires.hidden).near

pub write-requires-clause-has : goal.write-requires-clause-has
write-requires-clause-has g c k below = sym (ap (λ o. option_map_or (has_in c.args.self.now.cells c.args.i (along c.args.at k)) o false) c.requires.hidden) ∙ c.requires.has k below

pub invariant_of-self : goal.invariant_of-self
invariant_of-self g c = record {
  tabled = subst (IsTabled c.args.self.now.owns.items) (sym c.write.ensures.rows) c.args.self.now.tabled;
  bounded = λ j l q extent is.
      let place : CellPlace = record { image = j; cell = l; at = q } in
      let there = λ (k : ℕ). cell_place c.args.i c.args.extent.r (along c.args.at k) in
      by_search (length c.args.raws.now) (λ k. is_place place (there k))
      (λ k below e.
      let same = place_true place (there k) e in
      let image : j ≡ c.args.i = ap (λ (p : CellPlace). p.image) same in
      let one : c.args.extent ≡ extent = extent_is c.args.extent extent (sym c.requires.hidden ∙ ap (own_at c.args.self.now.owns.items) (sym image) ∙ is) in
      let value : cell_pixel c.write.new.self j l q ≡ slice_index c.args.raws.now k = ap (place_pixel c.write.new.self) same ∙ c.write.ensures.at k below in
      let bits : bits_in (form_at c.args.self.now) c.args.i ≡ depth extent.chan = ap own_bits c.requires.hidden ∙ ap (λ (e : Extent). depth e.chan) one in
      let small = c.requires.below k below in
      omega (arith, value, ap (λ n. 2 ^ n) bits, small))
      (λ none.
      let still : cell_pixel c.write.new.self j l q ≡ cell_pixel c.args.self.now.cells j l q = c.write.ensures.others place (λ k below same. false≢true (sym (none k below) ∙ true_place place (there k) same)) in
      omega (arith, still, c.args.self.now.bounded j l q extent is));
  few = few_same c.args.self.now.owns.items c.args.self.now.owns.items c.args.self.now.writes.sum c.and-self.result.sum (omega (arith, c.and-self.ensures)) (λ j watched is. is) c.args.self.now.few;
}

pub returns-clause-at : goal.returns-clause-at
returns-clause-at g c k below =
    let has = sym (ap (λ o. option_map_or (has_in c.args.self.now.cells c.args.i (along c.args.at k)) o false) c.requires.hidden) ∙ c.requires.has k below in
    let inside = (tile_parts (all_rows c.args.self.now.cells) c.args.i c.args.extent.r (along c.args.at k) has).0 in
    ap (λ o. option_map_or (kept_in c.write.new.self c.args.i (along c.args.at k)) o 0) c.requires.hidden
    ∙ ap (λ b. if b then place_pixel c.write.new.self (cell_place c.args.i c.args.extent.r (along c.args.at k)) else 0) inside
    ∙ c.write.ensures.at k below

pub returns-clause-others : goal.returns-clause-others
returns-clause-others g c place apart =
    by_own (own_at c.args.self.now.owns.items place.image) refl
  where
    old : Own → ℕ
    old o = kept_in c.args.self.now.cells place.image place.at o

    new : Own → ℕ
    new o = kept_in c.write.new.self place.image place.at o

    by_own : (o : Option Own) → own_at c.args.self.now.owns.items place.image ≡ o → option_map_or (kept_in c.write.new.self place.image place.at) o 0 ≡ option_map_or (kept_in c.args.self.now.cells place.image place.at) o 0
    by_own None is = refl
    by_own (Some (Whole watched)) is = refl
    by_own (Some (Hidden extent)) is =
        ⊎_elim
        (λ (inside : holds extent.r place.at ≡ true).
        ap (λ b. if b then place_pixel c.write.new.self (cell_place place.image extent.r place.at) else 0) inside
        ∙ c.write.ensures.others (cell_place place.image extent.r place.at)
        (λ k below same.
        let image : place.image ≡ c.args.i = ap (λ (p : CellPlace). p.image) same in
        let one : extent ≡ c.args.extent = extent_is extent c.args.extent (sym is ∙ ap (own_at c.args.self.now.owns.items) image ∙ c.requires.hidden) in
        let has = sym (ap (λ o. option_map_or (has_in c.args.self.now.cells c.args.i (along c.args.at k)) o false) c.requires.hidden) ∙ c.requires.has k below in
        let there = (tile_parts (all_rows c.args.self.now.cells) c.args.i c.args.extent.r (along c.args.at k) has).0 in
        let here : holds c.args.extent.r place.at ≡ true = ap (λ (e : Extent). holds e.r place.at) (sym one) ∙ inside in
        let both : cell_place c.args.i c.args.extent.r place.at ≡ cell_place c.args.i c.args.extent.r (along c.args.at k) = sym (λ j. cell_place (image j) (one j).r place.at) ∙ same in
        let at = place_injective c.args.i c.args.extent.r place.at (along c.args.at k) here there both in
        apart k below (λ j. record { image = image j; at = at j }))
        ∙ sym (ap (λ b. if b then place_pixel c.args.self.now.cells (cell_place place.image extent.r place.at) else 0) inside))
        (λ (outside : holds extent.r place.at ≡ false).
        ap (λ b. if b then place_pixel c.write.new.self (cell_place place.image extent.r place.at) else 0) outside
        ∙ sym (ap (λ b. if b then place_pixel c.args.self.now.cells (cell_place place.image extent.r place.at) else 0) outside))
        (cases_Bool (holds extent.r place.at))
