use Rattle.std.proofs.Common.{◌≡◌, ◌∙◌, ◌<◌, ℕ, false, length, Option, Some, refl, sym, subst, ap, arith}
use Rattle.std.specs.Prelude.{slice_set}
use Rattle.std.specs.Option.{option_map_or}
use Rattle.std.proofs.Math.ListN.{length-set}
use Rattle.r9_geom.specs.declared.Point.{Point}
use Rattle.r9_geom.specs.Geometry.{area_of, holds}
use Rattle.r9_cells.specs.Cells.{all_rows}
use Rattle.r9_pixels.specs.declared.own.Own.{Own}
use Rattle.r9_pixels.specs.declared.own.Own.TheVariants.{Whole}
use Rattle.r9_pixels.specs.Owns.{has_in, own_at}
use Rattle.r9_pixels.proofs.Owning.{hidden_set, no_window, own_again, own_is, tabled_as, tabled_set, IsNoWindow}
use Rattle.r9_pixels.proofs.Wholes.{whole_at, whole_forms, whole_has, whole_others, IsPlaneWritten, whole_moments}
use Rattle.r9_pixels.proofs.Few.{few_same, few_written}
use Rattle.r9_pixels.proofs.keeping.KeptPixels.paint_plane.Goals as goal

pub fill-requires-clause-inside : goal.fill-requires-clause-inside
fill-requires-clause-inside g c p h =
    let owns = c.args.self.now.owns.items in
    let below_owns : c.args.i < length owns = omega (arith, c.requires.live, c.args.self.now.owns.ok.0) in
    let was : own_at owns c.args.i ≡ Some (Whole c.in-Some-Whole.watched) = own_is owns c.args.i c.index_mut.result.now below_owns c.index_mut.ensures.value ∙ c.in-Some-Whole.is ∙ ap (λ o. Some o) c.in-Some-Whole.field-0-is in
    sym (ap (λ o. option_map_or (has_in c.args.self.now.cells c.args.i p) o false) was) ∙ c.requires.has p h

pub invariant_of-self : goal.invariant_of-self
invariant_of-self g c =
    let owns = c.args.self.now.owns.items in
    let rows = all_rows c.args.self.now.cells in
    let below_owns : c.args.i < length owns = omega (arith, c.requires.live, c.args.self.now.owns.ok.0) in
    let was : own_at owns c.args.i ≡ Some (Whole c.in-Some-Whole.watched) = own_is owns c.args.i c.index_mut.result.now below_owns c.index_mut.ensures.value ∙ c.in-Some-Whole.is ∙ ap (λ o. Some o) c.in-Some-Whole.field-0-is in
    let new : Option Own = Some (Whole c.fill.new.self) in
    let old_none : IsNoWindow (own_at owns c.args.i) = subst IsNoWindow (sym was) (no_window c.in-Some-Whole.watched) in
    record {
      tabled = tabled_set owns c.args.i new rows below_owns old_none (no_window c.fill.new.self) c.args.self.now.tabled;
      bounded = λ j l q extent is. c.args.self.now.bounded j l q extent (hidden_set owns c.args.i j new extent below_owns (no_window c.fill.new.self) is).1;
      few = few_written owns c.args.i c.in-Some-Whole.watched c.fill.new.self c.args.self.now.writes.sum c.and-self.result.sum (area_of c.args.r.now) below_owns was c.fill.ensures.moment c.fill.ensures.few (omega (arith, c.and-self.ensures)) c.args.self.now.few;
    }

pub invariant_of-self-in_default-2 : goal.invariant_of-self-in_default-2
invariant_of-self-in_default-2 g c =
    let owns = c.args.self.now.owns.items in
    let rows = all_rows c.args.self.now.cells in
    let slot = c.index_mut.result.now in
    let below_owns : c.args.i < length owns = omega (arith, c.requires.live, c.args.self.now.owns.ok.0) in
    let again = λ (j : ℕ). own_again owns c.args.i j slot below_owns (own_is owns c.args.i slot below_owns c.index_mut.ensures.value) in
    record {
      tabled = tabled_as owns (slice_set owns c.args.i slot) rows rows (c.args.self.now.tabled.numbers ∙ sym (length-set owns c.args.i slot)) (omega arith) (λ j extent is. sym (again j) ∙ is) (λ j extent is. again j ∙ is) (λ j. refl) (λ j k no none. none) c.args.self.now.tabled;
      bounded = λ j l q extent is. c.args.self.now.bounded j l q extent (sym (again j) ∙ is);
      few = few_same owns (slice_set owns c.args.i slot) c.args.self.now.writes.sum c.and-self.result.sum (omega (arith, c.and-self.ensures)) (λ j watched is. sym (again j) ∙ is) c.args.self.now.few;
    }

pub returns-in-Some-Whole-clause-at : goal.returns-in-Some-Whole-clause-at
returns-in-Some-Whole-clause-at g c p h =
    let owns = c.args.self.now.owns.items in
    let below_owns : c.args.i < length owns = omega (arith, c.requires.live, c.args.self.now.owns.ok.0) in
    let value : Point → ℕ = λ q. c.args.raw in
    let written : IsPlaneWritten (holds c.args.r.now) value c.in-Some-Whole.watched c.fill.new.self = record { rect = c.fill.ensures.rect; chan = c.fill.ensures.chan; pixels = c.fill.ensures.pixels; moment = c.fill.ensures.moment } in
    whole_at owns c.args.self.now.cells c.args.i (holds c.args.r.now) value c.in-Some-Whole.watched c.fill.new.self below_owns written p h

pub returns-in-Some-Whole-clause-others : goal.returns-in-Some-Whole-clause-others
returns-in-Some-Whole-clause-others g c place apart =
    let owns = c.args.self.now.owns.items in
    let below_owns : c.args.i < length owns = omega (arith, c.requires.live, c.args.self.now.owns.ok.0) in
    let was : own_at owns c.args.i ≡ Some (Whole c.in-Some-Whole.watched) = own_is owns c.args.i c.index_mut.result.now below_owns c.index_mut.ensures.value ∙ c.in-Some-Whole.is ∙ ap (λ o. Some o) c.in-Some-Whole.field-0-is in
    let written : IsPlaneWritten (holds c.args.r.now) (λ (q : Point). c.args.raw) c.in-Some-Whole.watched c.fill.new.self = record { rect = c.fill.ensures.rect; chan = c.fill.ensures.chan; pixels = c.fill.ensures.pixels; moment = c.fill.ensures.moment } in
    whole_others owns c.args.self.now.cells c.args.i (holds c.args.r.now) (λ (q : Point). c.args.raw) c.in-Some-Whole.watched c.fill.new.self below_owns was written place
    (λ p h is. apart p h is)

pub returns-in-Some-Whole-clause-has : goal.returns-in-Some-Whole-clause-has
returns-in-Some-Whole-clause-has g c =
    let owns = c.args.self.now.owns.items in
    let below_owns : c.args.i < length owns = omega (arith, c.requires.live, c.args.self.now.owns.ok.0) in
    let was : own_at owns c.args.i ≡ Some (Whole c.in-Some-Whole.watched) = own_is owns c.args.i c.index_mut.result.now below_owns c.index_mut.ensures.value ∙ c.in-Some-Whole.is ∙ ap (λ o. Some o) c.in-Some-Whole.field-0-is in
    let written : IsPlaneWritten (holds c.args.r.now) (λ (q : Point). c.args.raw) c.in-Some-Whole.watched c.fill.new.self = record { rect = c.fill.ensures.rect; chan = c.fill.ensures.chan; pixels = c.fill.ensures.pixels; moment = c.fill.ensures.moment } in
    λ j place. whole_has owns c.args.self.now.cells c.args.i (holds c.args.r.now) (λ (q : Point). c.args.raw) c.in-Some-Whole.watched c.fill.new.self below_owns was written place j

pub returns-in-Some-Whole-clause-forms : goal.returns-in-Some-Whole-clause-forms
returns-in-Some-Whole-clause-forms g c =
    let owns = c.args.self.now.owns.items in
    let below_owns : c.args.i < length owns = omega (arith, c.requires.live, c.args.self.now.owns.ok.0) in
    let was : own_at owns c.args.i ≡ Some (Whole c.in-Some-Whole.watched) = own_is owns c.args.i c.index_mut.result.now below_owns c.index_mut.ensures.value ∙ c.in-Some-Whole.is ∙ ap (λ o. Some o) c.in-Some-Whole.field-0-is in
    let written : IsPlaneWritten (holds c.args.r.now) (λ (q : Point). c.args.raw) c.in-Some-Whole.watched c.fill.new.self = record { rect = c.fill.ensures.rect; chan = c.fill.ensures.chan; pixels = c.fill.ensures.pixels; moment = c.fill.ensures.moment } in
    λ j n. whole_forms owns c.args.i (holds c.args.r.now) (λ (q : Point). c.args.raw) c.in-Some-Whole.watched c.fill.new.self below_owns was written n j

pub returns-in-Some-Whole-clause-moment : goal.returns-in-Some-Whole-clause-moment
returns-in-Some-Whole-clause-moment g c =
    let owns = c.args.self.now.owns.items in
    let below_owns : c.args.i < length owns = omega (arith, c.requires.live, c.args.self.now.owns.ok.0) in
    let was : own_at owns c.args.i ≡ Some (Whole c.in-Some-Whole.watched) = own_is owns c.args.i c.index_mut.result.now below_owns c.index_mut.ensures.value ∙ c.in-Some-Whole.is ∙ ap (λ o. Some o) c.in-Some-Whole.field-0-is in
    let written : IsPlaneWritten (holds c.args.r.now) (λ (q : Point). c.args.raw) c.in-Some-Whole.watched c.fill.new.self = record { rect = c.fill.ensures.rect; chan = c.fill.ensures.chan; pixels = c.fill.ensures.pixels; moment = c.fill.ensures.moment } in
    λ j n. whole_moments owns c.args.i (holds c.args.r.now) (λ (q : Point). c.args.raw) c.in-Some-Whole.watched c.fill.new.self below_owns was written n j
