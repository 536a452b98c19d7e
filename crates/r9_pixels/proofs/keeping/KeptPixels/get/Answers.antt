use Rattle.std.proofs.Common.{◌≡◌, ◌∙◌, ◌<◌, ◌^◌, false, length, Some, sym, subst, ap, arith}
use Rattle.std.specs.Prelude.{slice_index, if◌then◌else◌}
use Rattle.std.specs.Option.{option_map_or}
use Rattle.r9_geom.specs.Geometry.{holds}
use Rattle.r9_plane.specs.Pixels.{along, rect_of}
use Rattle.r9_locate.proofs.locate.Locating.{strip_at}
use Rattle.r9_cells.specs.Cells.{all_rows, place_pixel}
use Rattle.r9_cells.specs.Rows.{cell_place}
use Rattle.r9_cells.proofs.Places.{tile_parts}
use Rattle.r9_pixels.specs.declared.own.Own.TheVariants.{Whole, Hidden}
use Rattle.r9_pixels.specs.Owns.{has_in, kept_in, own_at}
use Rattle.r9_pixels.proofs.Owning.{own_bits}
use Rattle.r9_pixels.proofs.keeping.KeptPixels.get.Goals as goal

pub get_row-requires : goal.get_row-requires
get_row-requires c = record {
  inside = λ p h.
      let was : own_at c.args.self.now.owns.items c.args.i ≡ Some (Whole c.in-Whole.watched) = c.requires.is ∙ ap (λ o. Some o) c.in-Whole.is in
      let found = strip_at c.args.from p (length c.args.raws.now) h in
      ap (holds (rect_of c.in-Whole.watched.plane)) found.2
      ∙ sym (ap (λ o. option_map_or (has_in c.args.self.now.cells c.args.i (along c.args.from found.0)) o false) was) ∙ c.requires.has found.0 found.1;
}

pub read-requires-clause-near : goal.read-requires-clause-near
read-requires-clause-near c =
    let was : own_at c.args.self.now.owns.items c.args.i ≡ Some (Hidden c.in-Hidden.extent) = c.requires.is ∙ ap (λ o. Some o) c.in-Hidden.is in
    (c.args.self.now.tabled.windows c.args.i c.in-Hidden.extent was).near

pub read-requires-clause-has : goal.read-requires-clause-has
read-requires-clause-has c k below =
    let was : own_at c.args.self.now.owns.items c.args.i ≡ Some (Hidden c.in-Hidden.extent) = c.requires.is ∙ ap (λ o. Some o) c.in-Hidden.is in
    sym (ap (λ o. option_map_or (has_in c.args.self.now.cells c.args.i (along c.args.from k)) o false) was) ∙ c.requires.has k below

pub returns-in-Whole-clause-pixels : goal.returns-in-Whole-clause-pixels
returns-in-Whole-clause-pixels c k below =
    let was : own_at c.args.self.now.owns.items c.args.i ≡ Some (Whole c.in-Whole.watched) = c.requires.is ∙ ap (λ o. Some o) c.in-Whole.is in
    c.get_row.ensures.pixels k below ∙ sym (ap (λ o. option_map_or (kept_in c.args.self.now.cells c.args.i (along c.args.from k)) o 0) was)

pub returns-in-Whole-clause-below : goal.returns-in-Whole-clause-below
returns-in-Whole-clause-below c k below =
    let was : own_at c.args.self.now.owns.items c.args.i ≡ Some (Whole c.in-Whole.watched) = c.requires.is ∙ ap (λ o. Some o) c.in-Whole.is in
    subst (λ n. slice_index c.get_row.new.raws k < 2 ^ n) (sym (ap own_bits was)) (c.get_row.ensures.range k below)

pub returns-in-Hidden-clause-pixels : goal.returns-in-Hidden-clause-pixels
returns-in-Hidden-clause-pixels c k below =
    let was : own_at c.args.self.now.owns.items c.args.i ≡ Some (Hidden c.in-Hidden.extent) = c.requires.is ∙ ap (λ o. Some o) c.in-Hidden.is in
    let has = sym (ap (λ o. option_map_or (has_in c.args.self.now.cells c.args.i (along c.args.from k)) o false) was) ∙ c.requires.has k below in
    let inside = (tile_parts (all_rows c.args.self.now.cells) c.args.i c.in-Hidden.extent.r (along c.args.from k) has).0 in
    c.read.ensures k below
    ∙ sym (ap (λ b. if b then place_pixel c.args.self.now.cells (cell_place c.args.i c.in-Hidden.extent.r (along c.args.from k)) else 0) inside)
    ∙ sym (ap (λ o. option_map_or (kept_in c.args.self.now.cells c.args.i (along c.args.from k)) o 0) was)

pub returns-in-Hidden-clause-below : goal.returns-in-Hidden-clause-below
returns-in-Hidden-clause-below c k below =
    let was : own_at c.args.self.now.owns.items c.args.i ≡ Some (Hidden c.in-Hidden.extent) = c.requires.is ∙ ap (λ o. Some o) c.in-Hidden.is in
    let place = cell_place c.args.i c.in-Hidden.extent.r (along c.args.from k) in
    let small = c.args.self.now.bounded c.args.i place.cell place.at c.in-Hidden.extent was in
    let bits = ap (λ o. 2 ^ own_bits o) was in
    omega (arith, c.read.ensures k below, small, bits)
