use Rattle.std.proofs.Common.{◌∙◌, ℕ, false, List, Option, Some, set-set, sym, subst, ap, arith}
use Rattle.std.specs.Prelude.{option_and_then, option_map}
use Rattle.std.specs.Option.{option_map_or}
use Rattle.std.proofs.Math.ListN.{length-set}
use Rattle.r9_geom.specs.declared.Point.{Point as Spot}
use Rattle.r9_geom.specs.Geometry.{area_of, carried, holds}
use Rattle.r9_kern.specs.declared.layout.Over.{Over as Layouts}
use Rattle.r9_kern.specs.Over.{over_of}
use Rattle.r9_plane.specs.declared.plane.Plane.{Plane}
use Rattle.model_pixel.specs.Channels.{depth}
use Rattle.r9_plane.specs.Pixels.{chan_of, pixel_at, rect_of}
use Rattle.model_kept.specs.Keeping.{Place}
use Rattle.r9_locate.specs.locate.Forms.{Form}
use Rattle.r9_cells.specs.Cells.{all_rows}
use Rattle.r9_pixels.specs.declared.own.Own.{Own}
use Rattle.r9_pixels.specs.declared.own.Own.TheVariants.{Whole}
use Rattle.r9_pixels.specs.Owns.{form_in, has_in, moment_in, own_at, AreFew, IsTabled, IsWithinBits}
use Rattle.r9_pixels.proofs.Owning.{hidden_set, no_window, own_beside, own_bits, own_is, plane_told, tabled_set, whole_below, IsNoWindow}
use Rattle.r9_pixels.proofs.Telling.{kept_of, place_of}
use Rattle.r9_pixels.proofs.Wholes.{whole_at, whole_forms, whole_has, whole_others, IsPlaneWritten, whole_moments}
use Rattle.r9_pixels.proofs.Few.{few_written}
use Rattle.r9_pixels.proofs.keeping.KeptPixels.compose_whole.Goals as goal

-- what a point gets of two planes
abbrev composed : (to from : Spot) → Layouts → (source plane : Plane) → Spot → ℕ
composed to from over source plane p = over_of over (pixel_at source (carried p to from)) (pixel_at plane p)

pub index_mut-requires : goal.index_mut-requires
index_mut-requires g c = omega (arith, whole_below c.args.self.now.owns.items c.args.i c.requires.whole, c.args.self.now.owns.ok.0)

pub index-requires : goal.index-requires
index-requires g c =
    omega (arith, whole_below c.args.self.now.owns.items c.args.other c.requires.whole_from, length-set c.args.self.now.owns.items c.args.i c.replace.new.dest, c.args.self.now.owns.ok.0)

pub index_mut-requires-2 : goal.index_mut-requires-2
index_mut-requires-2 g c =
    omega (arith, whole_below c.args.self.now.owns.items c.args.i c.requires.whole, length-set c.args.self.now.owns.items c.args.i c.replace.new.dest, c.args.self.now.owns.ok.0)

pub plane_of-source-requires : goal.plane_of-source-requires
plane_of-source-requires g c =
    let owns = c.args.self.now.owns.items in
    let beside = own_beside owns c.args.i c.args.other c.replace.new.dest c.index.result.now c.requires.apart (whole_below owns c.args.other c.requires.whole_from) c.index.ensures in
    sym (ap (λ slot. option_map (λ (form : Form). form.is_window) (option_map form_in slot)) beside) ∙ c.requires.whole_from

pub compose_over-requires-clause-inside : goal.compose_over-requires-clause-inside
compose_over-requires-clause-inside g c p h =
    let self = c.args.self.now in
    let owns = self.owns.items in
    let i = c.args.i in
    let below = whole_below owns i c.requires.whole in
    let watched = c.in-Some-Whole.watched in
    let was = own_is owns i c.index_mut.result.now below c.index_mut.ensures.value ∙ sym c.replace.ensures.value ∙ c.in-Some-Whole.is ∙ ap (λ (own : Own). Some own) c.in-Some-Whole.field-0-is in
    sym (ap (λ o. option_map_or (has_in self.cells i p) o false) was) ∙ c.requires.has p h

pub compose_over-requires-clause-inside_from : goal.compose_over-requires-clause-inside_from
compose_over-requires-clause-inside_from g c p h =
    let self = c.args.self.now in
    let owns = self.owns.items in
    let i = c.args.i in
    let told = plane_told c.index.result.now c.plane_of-source.result.now c.plane_of-source.ensures in
    let there = own_beside owns i c.args.other c.replace.new.dest c.index.result.now c.requires.apart (whole_below owns c.args.other c.requires.whole_from) c.index.ensures ∙ told.slot_is in
    let q = carried p c.args.r.min c.args.from in
    ap (λ (plane : Plane). holds (rect_of plane) q) told.plane_is
    ∙ sym (ap (λ o. option_map_or (has_in self.cells c.args.other q) o false) there) ∙ c.requires.had p h

pub compose_over-requires-clause-depth : goal.compose_over-requires-clause-depth
compose_over-requires-clause-depth g c =
    let self = c.args.self.now in
    let owns = self.owns.items in
    let i = c.args.i in
    let below = whole_below owns i c.requires.whole in
    let watched = c.in-Some-Whole.watched in
    let was = own_is owns i c.index_mut.result.now below c.index_mut.ensures.value ∙ sym c.replace.ensures.value ∙ c.in-Some-Whole.is ∙ ap (λ (own : Own). Some own) c.in-Some-Whole.field-0-is in
    sym (ap own_bits was) ∙ c.requires.depth

pub compose_over-requires-clause-depth_from : goal.compose_over-requires-clause-depth_from
compose_over-requires-clause-depth_from g c =
    let owns = c.args.self.now.owns.items in
    let i = c.args.i in
    let told = plane_told c.index.result.now c.plane_of-source.result.now c.plane_of-source.ensures in
    let there = own_beside owns i c.args.other c.replace.new.dest c.index.result.now c.requires.apart (whole_below owns c.args.other c.requires.whole_from) c.index.ensures ∙ told.slot_is in
    ap (λ (plane : Plane). depth (chan_of plane)) told.plane_is ∙ sym (ap own_bits there) ∙ c.requires.depth_from

pub invariant_of-self : goal.invariant_of-self
invariant_of-self g c =
    let self = c.args.self.now in
    let owns = self.owns.items in
    let i = c.args.i in
    let below = whole_below owns i c.requires.whole in
    let watched = c.in-Some-Whole.watched in
    let was = own_is owns i c.index_mut.result.now below c.index_mut.ensures.value ∙ sym c.replace.ensures.value ∙ c.in-Some-Whole.is ∙ ap (λ (own : Own). Some own) c.in-Some-Whole.field-0-is in
    let new = c.compose_over.new.self in
    let one = set-set owns i c.replace.new.dest (Some (Whole new)) in
    let none : IsNoWindow (own_at owns i) = subst IsNoWindow (sym was) (no_window watched) in
    record {
      tabled =
          subst (λ (items : List (Option Own)). IsTabled items (all_rows self.cells)) (sym one)
          (tabled_set owns i (Some (Whole new)) (all_rows self.cells) below none (no_window new) self.tabled);
      bounded =
          subst (λ (items : List (Option Own)). IsWithinBits items self.cells) (sym one)
          (λ j l q extent is. self.bounded j l q extent (hidden_set owns i j (Some (Whole new)) extent below (no_window new) is).1);
      few =
          subst (AreFew c.and-self.result.sum) (sym one)
          (few_written owns i watched new self.writes.sum c.and-self.result.sum (area_of c.args.r) below was c.compose_over.ensures.moment c.compose_over.ensures.few (omega (arith, c.and-self.ensures)) self.few);
    }

pub returns-clause-at : goal.returns-clause-at
returns-clause-at g c p h =
    let self = c.args.self.now in
    let owns = self.owns.items in
    let i = c.args.i in
    let below = whole_below owns i c.requires.whole in
    let watched = c.in-Some-Whole.watched in
    let was = own_is owns i c.index_mut.result.now below c.index_mut.ensures.value ∙ sym c.replace.ensures.value ∙ c.in-Some-Whole.is ∙ ap (λ (own : Own). Some own) c.in-Some-Whole.field-0-is in
    let told = plane_told c.index.result.now c.plane_of-source.result.now c.plane_of-source.ensures in
    let there = own_beside owns i c.args.other c.replace.new.dest c.index.result.now c.requires.apart (whole_below owns c.args.other c.requires.whole_from) c.index.ensures ∙ told.slot_is in
    let new = c.compose_over.new.self in
    let one = set-set owns i c.replace.new.dest (Some (Whole new)) in
    let f = composed c.args.r.min c.args.from c.args.over c.plane_of-source.result.now watched.plane in
    let written : IsPlaneWritten (holds c.args.r) f watched new = record { rect = c.compose_over.ensures.rect; chan = c.compose_over.ensures.chan; pixels = c.compose_over.ensures.pixels; moment = c.compose_over.ensures.moment } in
    let q = carried p c.args.r.min c.args.from in
    ap (λ (items : List (Option Own)). kept_of self.cells i p (own_at items i)) one
    ∙ whole_at owns self.cells i (holds c.args.r) f watched new below written p h
    ∙ (λ j. over_of c.args.over (pixel_at (told.plane_is j) q) (pixel_at watched.plane p))
    ∙ sym (λ j. over_of c.args.over (kept_of self.cells c.args.other q (there j)) (kept_of self.cells i p (was j)))

pub returns-clause-others : goal.returns-clause-others
returns-clause-others g c place apart =
    let self = c.args.self.now in
    let owns = self.owns.items in
    let i = c.args.i in
    let below = whole_below owns i c.requires.whole in
    let watched = c.in-Some-Whole.watched in
    let was = own_is owns i c.index_mut.result.now below c.index_mut.ensures.value ∙ sym c.replace.ensures.value ∙ c.in-Some-Whole.is ∙ ap (λ (own : Own). Some own) c.in-Some-Whole.field-0-is in
    let new = c.compose_over.new.self in
    let one = set-set owns i c.replace.new.dest (Some (Whole new)) in
    let f = composed c.args.r.min c.args.from c.args.over c.plane_of-source.result.now watched.plane in
    let written : IsPlaneWritten (holds c.args.r) f watched new = record { rect = c.compose_over.ensures.rect; chan = c.compose_over.ensures.chan; pixels = c.compose_over.ensures.pixels; moment = c.compose_over.ensures.moment } in
    ap (λ (items : List (Option Own)). kept_of self.cells place.image place.at (own_at items place.image)) one
    ∙ whole_others owns self.cells i (holds c.args.r) f watched new below was written place apart

pub returns-clause-has : goal.returns-clause-has
returns-clause-has g c =
    let self = c.args.self.now in
    let owns = self.owns.items in
    let i = c.args.i in
    let below = whole_below owns i c.requires.whole in
    let watched = c.in-Some-Whole.watched in
    let was = own_is owns i c.index_mut.result.now below c.index_mut.ensures.value ∙ sym c.replace.ensures.value ∙ c.in-Some-Whole.is ∙ ap (λ (own : Own). Some own) c.in-Some-Whole.field-0-is in
    let new = c.compose_over.new.self in
    let one = set-set owns i c.replace.new.dest (Some (Whole new)) in
    let f = composed c.args.r.min c.args.from c.args.over c.plane_of-source.result.now watched.plane in
    let written : IsPlaneWritten (holds c.args.r) f watched new = record { rect = c.compose_over.ensures.rect; chan = c.compose_over.ensures.chan; pixels = c.compose_over.ensures.pixels; moment = c.compose_over.ensures.moment } in
    λ j (place : Place).
    (ap (λ (items : List (Option Own)). place_of self.cells place.image place.at (own_at items place.image)) one
    ∙ whole_has owns self.cells i (holds c.args.r) f watched new below was written place) j

pub returns-clause-forms : goal.returns-clause-forms
returns-clause-forms g c =
    let self = c.args.self.now in
    let owns = self.owns.items in
    let i = c.args.i in
    let below = whole_below owns i c.requires.whole in
    let watched = c.in-Some-Whole.watched in
    let was = own_is owns i c.index_mut.result.now below c.index_mut.ensures.value ∙ sym c.replace.ensures.value ∙ c.in-Some-Whole.is ∙ ap (λ (own : Own). Some own) c.in-Some-Whole.field-0-is in
    let new = c.compose_over.new.self in
    let one = set-set owns i c.replace.new.dest (Some (Whole new)) in
    let f = composed c.args.r.min c.args.from c.args.over c.plane_of-source.result.now watched.plane in
    let written : IsPlaneWritten (holds c.args.r) f watched new = record { rect = c.compose_over.ensures.rect; chan = c.compose_over.ensures.chan; pixels = c.compose_over.ensures.pixels; moment = c.compose_over.ensures.moment } in
    λ j n.
    (ap (λ (items : List (Option Own)). option_map form_in (own_at items n)) one
    ∙ whole_forms owns i (holds c.args.r) f watched new below was written n) j

pub returns-clause-moment : goal.returns-clause-moment
returns-clause-moment g c =
    let self = c.args.self.now in
    let owns = self.owns.items in
    let i = c.args.i in
    let below = whole_below owns i c.requires.whole in
    let watched = c.in-Some-Whole.watched in
    let was = own_is owns i c.index_mut.result.now below c.index_mut.ensures.value ∙ sym c.replace.ensures.value ∙ c.in-Some-Whole.is ∙ ap (λ (own : Own). Some own) c.in-Some-Whole.field-0-is in
    let new = c.compose_over.new.self in
    let one = set-set owns i c.replace.new.dest (Some (Whole new)) in
    let f = composed c.args.r.min c.args.from c.args.over c.plane_of-source.result.now watched.plane in
    let written : IsPlaneWritten (holds c.args.r) f watched new = record { rect = c.compose_over.ensures.rect; chan = c.compose_over.ensures.chan; pixels = c.compose_over.ensures.pixels; moment = c.compose_over.ensures.moment } in
    λ j n.
    (ap (λ (items : List (Option Own)). option_and_then moment_in (own_at items n)) one
    ∙ whole_moments owns i (holds c.args.r) f watched new below was written n) j
