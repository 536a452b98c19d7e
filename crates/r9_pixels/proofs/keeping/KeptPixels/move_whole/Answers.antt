use Rattle.std.proofs.Common.{◌≡◌, ◌∙◌, ℕ, ◌<◌, false, length, Option, Some, refl, sym, subst, ap, arith}
use Rattle.std.specs.Option.{option_map_or}
use Rattle.std.specs.Int.Bits.{bit_and}
use Rattle.r9_geom.specs.declared.Point.{Point as Spot}
use Rattle.r9_geom.specs.Geometry.{area_of, carried, holds}
use Rattle.r9_plane.specs.declared.plane.Plane.{Plane}
use Rattle.r9_plane.specs.Pixels.{pixel_at}
use Rattle.r9_cells.specs.Cells.{all_rows}
use Rattle.r9_pixels.specs.declared.own.Own.{Own}
use Rattle.r9_pixels.specs.declared.own.Own.TheVariants.{Whole}
use Rattle.r9_pixels.specs.Owns.{has_in, kept_in, own_at}
use Rattle.r9_pixels.proofs.Owning.{hidden_set, no_window, own_is, own_there, tabled_set, whole_of, IsNoWindow}
use Rattle.r9_pixels.proofs.Wholes.{whole_at, whole_forms, whole_has, whole_others, IsPlaneWritten, whole_moments}
use Rattle.r9_pixels.proofs.Few.{few_written}
use Rattle.r9_pixels.proofs.keeping.KeptPixels.move_whole.Given.{Over}
use Rattle.r9_pixels.proofs.keeping.KeptPixels.move_whole.Goals as goal
use Rattle.r9_pixels.proofs.keeping.KeptPixels.move_whole.Goals.{Start, In-Some-Whole}

-- what a point gets of a plane
abbrev moved : (to from : Spot) → ℕ → Plane → Spot → ℕ
moved to from bits plane p = bit_and (pixel_at plane (carried p to from)) bits

below : (g : Over) (c : Start g) → c.args.i < length c.args.self.now.owns.items
below g c =
    let owns = c.args.self.now.owns.items in
    let found = whole_of (own_at owns c.args.i) c.requires.whole in
    own_there owns c.args.i (Whole found.0) found.1

had : (g : Over) (c : In-Some-Whole g) → c.args.i < length c.args.self.now.owns.items → own_at c.args.self.now.owns.items c.args.i ≡ Some (Whole c.in-Some-Whole.watched)
had g c there = own_is c.args.self.now.owns.items c.args.i c.index_mut.result.now there c.index_mut.ensures.value ∙ c.in-Some-Whole.is ∙ ap (λ o. Some o) c.in-Some-Whole.field-0-is

pub index_mut-requires : goal.index_mut-requires
index_mut-requires g c = omega (arith, below g (goal.at.index_mut-requires g c).Start, c.args.self.now.owns.ok.0)

pub move_kept-requires-clause-inside : goal.move_kept-requires-clause-inside
move_kept-requires-clause-inside g c p h =
    let owns = c.args.self.now.owns.items in
    let at = goal.at.move_kept-requires-clause-inside g c in
    let below_owns = below g at.Start in
    let was = had g at.In-Some-Whole below_owns in
    sym (ap (λ o. option_map_or (has_in c.args.self.now.cells c.args.i p) o false) was) ∙ c.requires.has p h

pub move_kept-requires-clause-inside_from : goal.move_kept-requires-clause-inside_from
move_kept-requires-clause-inside_from g c p h =
    let owns = c.args.self.now.owns.items in
    let at = goal.at.move_kept-requires-clause-inside_from g c in
    let below_owns = below g at.Start in
    let was = had g at.In-Some-Whole below_owns in
    sym (ap (λ o. option_map_or (has_in c.args.self.now.cells c.args.i (carried p c.args.r.min c.args.from)) o false) was) ∙ c.requires.had p h

pub invariant_of-self : goal.invariant_of-self
invariant_of-self g c =
    let owns = c.args.self.now.owns.items in
    let at = goal.at.invariant_of-self g c in
    let below_owns = below g at.Start in
    let was = had g at.In-Some-Whole below_owns in
    let rows = all_rows c.args.self.now.cells in
    let new : Option Own = Some (Whole c.move_kept.new.self) in
    let old_none : IsNoWindow (own_at owns c.args.i) = subst IsNoWindow (sym was) (no_window c.in-Some-Whole.watched) in
    record {
      tabled = tabled_set owns c.args.i new rows below_owns old_none (no_window c.move_kept.new.self) c.args.self.now.tabled;
      bounded = λ j l q extent is. c.args.self.now.bounded j l q extent (hidden_set owns c.args.i j new extent below_owns (no_window c.move_kept.new.self) is).1;
      few = few_written owns c.args.i c.in-Some-Whole.watched c.move_kept.new.self c.args.self.now.writes.sum c.and-self.result.sum (area_of c.args.r) below_owns was c.move_kept.ensures.moment c.move_kept.ensures.few (omega (arith, c.and-self.ensures)) c.args.self.now.few;
    }

pub returns-clause-at : goal.returns-clause-at
returns-clause-at g c p h =
    let owns = c.args.self.now.owns.items in
    let at = goal.at.returns-clause-at g c in
    let below_owns = below g at.Start in
    let was = had g at.In-Some-Whole below_owns in
    let written : IsPlaneWritten (holds c.args.r) (moved c.args.r.min c.args.from c.args.bits c.in-Some-Whole.watched.plane) c.in-Some-Whole.watched c.move_kept.new.self = record { rect = c.move_kept.ensures.rect; chan = c.move_kept.ensures.chan; pixels = c.move_kept.ensures.pixels; moment = c.move_kept.ensures.moment } in
    whole_at owns c.args.self.now.cells c.args.i (holds c.args.r) (moved c.args.r.min c.args.from c.args.bits c.in-Some-Whole.watched.plane) c.in-Some-Whole.watched c.move_kept.new.self below_owns written p h
    ∙ ap (λ raw. bit_and raw c.args.bits) (sym (ap (λ o. option_map_or (kept_in c.args.self.now.cells c.args.i (carried p c.args.r.min c.args.from)) o 0) was))

pub returns-clause-others : goal.returns-clause-others
returns-clause-others g c place apart =
    let owns = c.args.self.now.owns.items in
    let at = goal.at.returns-clause-others g c in
    let below_owns = below g at.Start in
    let was = had g at.In-Some-Whole below_owns in
    let written : IsPlaneWritten (holds c.args.r) (moved c.args.r.min c.args.from c.args.bits c.in-Some-Whole.watched.plane) c.in-Some-Whole.watched c.move_kept.new.self = record { rect = c.move_kept.ensures.rect; chan = c.move_kept.ensures.chan; pixels = c.move_kept.ensures.pixels; moment = c.move_kept.ensures.moment } in
    whole_others owns c.args.self.now.cells c.args.i (holds c.args.r) (moved c.args.r.min c.args.from c.args.bits c.in-Some-Whole.watched.plane) c.in-Some-Whole.watched c.move_kept.new.self below_owns was written place apart

pub returns-clause-has : goal.returns-clause-has
returns-clause-has g c =
    let owns = c.args.self.now.owns.items in
    let at = goal.at.returns-clause-has g c in
    let below_owns = below g at.Start in
    let was = had g at.In-Some-Whole below_owns in
    let written : IsPlaneWritten (holds c.args.r) (moved c.args.r.min c.args.from c.args.bits c.in-Some-Whole.watched.plane) c.in-Some-Whole.watched c.move_kept.new.self = record { rect = c.move_kept.ensures.rect; chan = c.move_kept.ensures.chan; pixels = c.move_kept.ensures.pixels; moment = c.move_kept.ensures.moment } in
    λ j place. whole_has owns c.args.self.now.cells c.args.i (holds c.args.r) (moved c.args.r.min c.args.from c.args.bits c.in-Some-Whole.watched.plane) c.in-Some-Whole.watched c.move_kept.new.self below_owns was written place j

pub returns-clause-forms : goal.returns-clause-forms
returns-clause-forms g c =
    let owns = c.args.self.now.owns.items in
    let at = goal.at.returns-clause-forms g c in
    let below_owns = below g at.Start in
    let was = had g at.In-Some-Whole below_owns in
    let written : IsPlaneWritten (holds c.args.r) (moved c.args.r.min c.args.from c.args.bits c.in-Some-Whole.watched.plane) c.in-Some-Whole.watched c.move_kept.new.self = record { rect = c.move_kept.ensures.rect; chan = c.move_kept.ensures.chan; pixels = c.move_kept.ensures.pixels; moment = c.move_kept.ensures.moment } in
    λ j n. whole_forms owns c.args.i (holds c.args.r) (moved c.args.r.min c.args.from c.args.bits c.in-Some-Whole.watched.plane) c.in-Some-Whole.watched c.move_kept.new.self below_owns was written n j

pub returns-clause-moment : goal.returns-clause-moment
returns-clause-moment g c =
    let owns = c.args.self.now.owns.items in
    let at = goal.at.returns-clause-moment g c in
    let below_owns = below g at.Start in
    let was = had g at.In-Some-Whole below_owns in
    let written : IsPlaneWritten (holds c.args.r) (moved c.args.r.min c.args.from c.args.bits c.in-Some-Whole.watched.plane) c.in-Some-Whole.watched c.move_kept.new.self = record { rect = c.move_kept.ensures.rect; chan = c.move_kept.ensures.chan; pixels = c.move_kept.ensures.pixels; moment = c.move_kept.ensures.moment } in
    λ j n. whole_moments owns c.args.i (holds c.args.r) (moved c.args.r.min c.args.from c.args.bits c.in-Some-Whole.watched.plane) c.in-Some-Whole.watched c.move_kept.new.self below_owns was written n j
