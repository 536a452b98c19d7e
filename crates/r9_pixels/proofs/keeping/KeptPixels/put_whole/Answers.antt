use Rattle.std.proofs.Common.{◌≡◌, ◌∙◌, ◌<◌, ℕ, false, length, Option, Some, refl, sym, subst, ap, arith}
use Rattle.std.specs.Prelude.{slice_index, slice_set}
use Rattle.std.specs.Option.{option_map_or}
use Rattle.std.proofs.Math.ListN.{length-set}
use Rattle.r9_geom.specs.Geometry.{distance, holds, strip}
use Rattle.r9_geom.proofs.GeometryLemmas.{strip_distance}
use Rattle.r9_plane.specs.Pixels.{along, rect_of}
use Rattle.r9_plane.proofs.PlaneLemmas.{along_holds}
use Rattle.model_kept.specs.Keeping.{own}
use Rattle.r9_locate.proofs.locate.Locating.{strip_at}
use Rattle.r9_cells.specs.Cells.{all_rows}
use Rattle.r9_pixels.specs.declared.own.Own.{Own}
use Rattle.r9_pixels.specs.declared.own.Own.TheVariants.{Whole}
use Rattle.r9_pixels.specs.Owns.{has_in, own_at}
use Rattle.r9_pixels.proofs.Owning.{hidden_set, no_window, own_again, own_is, tabled_as, tabled_set, IsNoWindow}
use Rattle.r9_pixels.proofs.Wholes.{whole_at, whole_forms, whole_has, whole_others, IsPlaneWritten, whole_moments}
use Rattle.r9_pixels.proofs.Few.{few_same, few_written}
use Rattle.r9_pixels.proofs.keeping.KeptPixels.put_whole.Goals as goal

pub put_row-requires-clause-inside : goal.put_row-requires-clause-inside
put_row-requires-clause-inside g c p h =
    let owns = c.args.self.now.owns.items in
    let below_owns : c.args.i < length owns = omega (arith, c.requires.live, c.args.self.now.owns.ok.0) in
    let was : own_at owns c.args.i ≡ Some (Whole c.in-Some-Whole.watched) = own_is owns c.args.i c.index_mut.result.now below_owns c.index_mut.ensures.value ∙ c.in-Some-Whole.is ∙ ap (λ o. Some o) c.in-Some-Whole.field-0-is in
    let found = strip_at c.args.at p (length c.args.raws.now) h in
    ap (holds (rect_of c.in-Some-Whole.watched.plane)) found.2
    ∙ sym (ap (λ o. option_map_or (has_in c.args.self.now.cells c.args.i (along c.args.at found.0)) o false) was) ∙ c.requires.has found.0 found.1

pub invariant_of-self : goal.invariant_of-self
invariant_of-self g c =
    let owns = c.args.self.now.owns.items in
    let rows = all_rows c.args.self.now.cells in
    let below_owns : c.args.i < length owns = omega (arith, c.requires.live, c.args.self.now.owns.ok.0) in
    let was : own_at owns c.args.i ≡ Some (Whole c.in-Some-Whole.watched) = own_is owns c.args.i c.index_mut.result.now below_owns c.index_mut.ensures.value ∙ c.in-Some-Whole.is ∙ ap (λ o. Some o) c.in-Some-Whole.field-0-is in
    let new : Option Own = Some (Whole c.put_row.new.self) in
    let old_none : IsNoWindow (own_at owns c.args.i) = subst IsNoWindow (sym was) (no_window c.in-Some-Whole.watched) in
    record {
      tabled = tabled_set owns c.args.i new rows below_owns old_none (no_window c.put_row.new.self) c.args.self.now.tabled;
      bounded = λ j l q extent is. c.args.self.now.bounded j l q extent (hidden_set owns c.args.i j new extent below_owns (no_window c.put_row.new.self) is).1;
      few = few_written owns c.args.i c.in-Some-Whole.watched c.put_row.new.self c.args.self.now.writes.sum c.and-self.result.sum (length c.args.raws.now) below_owns was c.put_row.ensures.moment c.put_row.ensures.few (omega (arith, c.and-self.ensures)) c.args.self.now.few;
    }

pub invariant_of-self-in_default-2 : goal.invariant_of-self-in_default-2
invariant_of-self-in_default-2 g c =
    let owns = c.args.self.now.owns.items in
    let rows = all_rows c.args.self.now.cells in
    let slot = c.index_mut.result.now in
    let below_owns : c.args.i < length owns = omega (arith, c.requires.live, c.args.self.now.owns.ok.0) in
    let again = λ (j : ℕ). own_again owns c.args.i j slot below_owns (own_is owns c.args.i slot below_owns c.index_mut.ensures.value) in
    record {
      tabled = tabled_as owns (slice_set owns c.args.i slot) rows rows (c.args.self.now.tabled.numbers ∙ sym (length-set owns c.args.i slot)) (omega arith) (λ j extent is. sym (again j) ∙ is) (λ j extent is. again j ∙ is) (λ j. refl) (λ j k no none. none) c.args.self.now.tabled;
      bounded = λ j l q extent is. c.args.self.now.bounded j l q extent (sym (again j) ∙ is);
      few = few_same owns (slice_set owns c.args.i slot) c.args.self.now.writes.sum c.and-self.result.sum (omega (arith, c.and-self.ensures)) (λ j watched is. sym (again j) ∙ is) c.args.self.now.few;
    }

pub returns-in-Some-Whole-clause-at : goal.returns-in-Some-Whole-clause-at
returns-in-Some-Whole-clause-at g c k below =
    let owns = c.args.self.now.owns.items in
    let below_owns : c.args.i < length owns = omega (arith, c.requires.live, c.args.self.now.owns.ok.0) in
    let at = c.args.at in
    let raws = c.args.raws.now in
    let written : IsPlaneWritten (holds (strip c.args.at (length c.args.raws.now))) (λ q. slice_index c.args.raws.now (distance c.args.at.x q.x)) c.in-Some-Whole.watched c.put_row.new.self = record { rect = c.put_row.ensures.rect; chan = c.put_row.ensures.chan; pixels = c.put_row.ensures.pixels; moment = c.put_row.ensures.moment } in
    whole_at owns c.args.self.now.cells c.args.i (holds (strip c.args.at (length c.args.raws.now))) (λ q. slice_index c.args.raws.now (distance c.args.at.x q.x)) c.in-Some-Whole.watched c.put_row.new.self below_owns written (along at k) (along_holds at (length raws) k below)
    ∙ ap (slice_index raws) (strip_distance at (along at k) k refl)

pub returns-in-Some-Whole-clause-others : goal.returns-in-Some-Whole-clause-others
returns-in-Some-Whole-clause-others g c place apart =
    let owns = c.args.self.now.owns.items in
    let below_owns : c.args.i < length owns = omega (arith, c.requires.live, c.args.self.now.owns.ok.0) in
    let was : own_at owns c.args.i ≡ Some (Whole c.in-Some-Whole.watched) = own_is owns c.args.i c.index_mut.result.now below_owns c.index_mut.ensures.value ∙ c.in-Some-Whole.is ∙ ap (λ o. Some o) c.in-Some-Whole.field-0-is in
    let written : IsPlaneWritten (holds (strip c.args.at (length c.args.raws.now))) (λ q. slice_index c.args.raws.now (distance c.args.at.x q.x)) c.in-Some-Whole.watched c.put_row.new.self = record { rect = c.put_row.ensures.rect; chan = c.put_row.ensures.chan; pixels = c.put_row.ensures.pixels; moment = c.put_row.ensures.moment } in
    whole_others owns c.args.self.now.cells c.args.i (holds (strip c.args.at (length c.args.raws.now))) (λ q. slice_index c.args.raws.now (distance c.args.at.x q.x)) c.in-Some-Whole.watched c.put_row.new.self below_owns was written place
    (λ p h is. let found = strip_at c.args.at p (length c.args.raws.now) h in apart found.0 found.1 (is ∙ ap (own c.args.i) found.2))

pub returns-in-Some-Whole-clause-has : goal.returns-in-Some-Whole-clause-has
returns-in-Some-Whole-clause-has g c =
    let owns = c.args.self.now.owns.items in
    let below_owns : c.args.i < length owns = omega (arith, c.requires.live, c.args.self.now.owns.ok.0) in
    let was : own_at owns c.args.i ≡ Some (Whole c.in-Some-Whole.watched) = own_is owns c.args.i c.index_mut.result.now below_owns c.index_mut.ensures.value ∙ c.in-Some-Whole.is ∙ ap (λ o. Some o) c.in-Some-Whole.field-0-is in
    let written : IsPlaneWritten (holds (strip c.args.at (length c.args.raws.now))) (λ q. slice_index c.args.raws.now (distance c.args.at.x q.x)) c.in-Some-Whole.watched c.put_row.new.self = record { rect = c.put_row.ensures.rect; chan = c.put_row.ensures.chan; pixels = c.put_row.ensures.pixels; moment = c.put_row.ensures.moment } in
    λ j place. whole_has owns c.args.self.now.cells c.args.i (holds (strip c.args.at (length c.args.raws.now))) (λ q. slice_index c.args.raws.now (distance c.args.at.x q.x)) c.in-Some-Whole.watched c.put_row.new.self below_owns was written place j

pub returns-in-Some-Whole-clause-forms : goal.returns-in-Some-Whole-clause-forms
returns-in-Some-Whole-clause-forms g c =
    let owns = c.args.self.now.owns.items in
    let below_owns : c.args.i < length owns = omega (arith, c.requires.live, c.args.self.now.owns.ok.0) in
    let was : own_at owns c.args.i ≡ Some (Whole c.in-Some-Whole.watched) = own_is owns c.args.i c.index_mut.result.now below_owns c.index_mut.ensures.value ∙ c.in-Some-Whole.is ∙ ap (λ o. Some o) c.in-Some-Whole.field-0-is in
    let written : IsPlaneWritten (holds (strip c.args.at (length c.args.raws.now))) (λ q. slice_index c.args.raws.now (distance c.args.at.x q.x)) c.in-Some-Whole.watched c.put_row.new.self = record { rect = c.put_row.ensures.rect; chan = c.put_row.ensures.chan; pixels = c.put_row.ensures.pixels; moment = c.put_row.ensures.moment } in
    λ j n. whole_forms owns c.args.i (holds (strip c.args.at (length c.args.raws.now))) (λ q. slice_index c.args.raws.now (distance c.args.at.x q.x)) c.in-Some-Whole.watched c.put_row.new.self below_owns was written n j

pub returns-in-Some-Whole-clause-moment : goal.returns-in-Some-Whole-clause-moment
returns-in-Some-Whole-clause-moment g c =
    let owns = c.args.self.now.owns.items in
    let below_owns : c.args.i < length owns = omega (arith, c.requires.live, c.args.self.now.owns.ok.0) in
    let was : own_at owns c.args.i ≡ Some (Whole c.in-Some-Whole.watched) = own_is owns c.args.i c.index_mut.result.now below_owns c.index_mut.ensures.value ∙ c.in-Some-Whole.is ∙ ap (λ o. Some o) c.in-Some-Whole.field-0-is in
    let written : IsPlaneWritten (holds (strip c.args.at (length c.args.raws.now))) (λ q. slice_index c.args.raws.now (distance c.args.at.x q.x)) c.in-Some-Whole.watched c.put_row.new.self = record { rect = c.put_row.ensures.rect; chan = c.put_row.ensures.chan; pixels = c.put_row.ensures.pixels; moment = c.put_row.ensures.moment } in
    λ j n. whole_moments owns c.args.i (holds (strip c.args.at (length c.args.raws.now))) (λ q. slice_index c.args.raws.now (distance c.args.at.x q.x)) c.in-Some-Whole.watched c.put_row.new.self below_owns was written n j
