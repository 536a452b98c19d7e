use Rattle.std.proofs.Common.{◌≡◌, ◌∙◌, ◌<◌, Option, Some, length, set, sym, subst, ap, arith}
use Rattle.r9_plane.specs.declared.plane.Plane.{Plane}
use Rattle.r9_plane.specs.Marks.{mark_count, marked_at}
use Rattle.r9_plane.specs.Pixels.{chan_of, pixel_at, rect_of}
use Rattle.model_kept.specs.Keeping.{Place}
use Rattle.r9_locate.specs.watched.Moments.{moment_at, Moment}
use Rattle.r9_cells.specs.Cells.{all_rows}
use Rattle.r9_pixels.specs.declared.own.Own.{Own}
use Rattle.r9_pixels.specs.declared.own.Own.TheVariants.{Whole}
use Rattle.r9_pixels.specs.Owns.{own_at}
use Rattle.r9_pixels.proofs.Few.{few_plane}
use Rattle.r9_pixels.proofs.Looked.{few_now, looked_forms, looked_has, looked_kept, looked_moments, marked_of, marks_of, no_moments, now_of}
use Rattle.r9_pixels.proofs.Owning.{hidden_set, no_window, own_is, own_same, tabled_set, whole_below, IsNoWindow}
use Rattle.r9_pixels.proofs.keeping.KeptPixels.clear_marks.Goals as goal
use Rattle.r9_pixels.proofs.keeping.KeptPixels.clear_marks.Goals.{In-Some-Whole}

below : (c : In-Some-Whole) → c.args.i < length c.args.self.now.owns.items
below c = whole_below c.args.self.now.owns.items c.args.i (c.is_whole.ensures.whole c.if-not-is_whole.false)

was : (c : In-Some-Whole) → c.args.i < length c.args.self.now.owns.items → own_at c.args.self.now.owns.items c.args.i ≡ Some (Whole c.in-Some-Whole.watched)
was c there = own_is c.args.self.now.owns.items c.args.i c.index_mut.result.now there c.index_mut.ensures.value ∙ c.in-Some-Whole.is ∙ ap (λ (own : Own). Some own) c.in-Some-Whole.field-0-is

pub index_mut-requires : goal.index_mut-requires
index_mut-requires c = omega (arith, whole_below c.args.self.now.owns.items c.args.i (c.is_whole.ensures.whole c.if-not-is_whole.false), c.args.self.now.owns.ok.0)

pub invariant_of-self : goal.invariant_of-self
invariant_of-self c =
    let at = goal.at.invariant_of-self c in
    let self = c.args.self.now in
    let owns = self.owns.items in
    let there = below at.In-Some-Whole in
    let is = was at.In-Some-Whole there in
    let new = c.clear_marks.new.self in
    let none : IsNoWindow (own_at owns c.args.i) = subst IsNoWindow (sym is) (no_window c.in-Some-Whole.watched) in
    let slot : Option Own = Some (Whole new) in
    record {
      tabled = tabled_set owns c.args.i slot (all_rows self.cells) there none (no_window new) self.tabled;
      bounded = λ j l q extent at. self.bounded j l q extent (hidden_set owns c.args.i j slot extent there (no_window new) at).1;
      few = few_plane owns c.args.i new self.writes.sum self.writes.sum there (omega arith) (few_now new self.writes.sum c.clear_marks.ensures.moment) self.few;
    }

pub returns-clause-kept : goal.returns-clause-kept
returns-clause-kept c =
    let at = goal.at.returns-clause-kept c in
    let self = c.args.self.now in
    let owns = self.owns.items in
    let there = below at.In-Some-Whole in
    let is = was at.In-Some-Whole there in
    let new = c.clear_marks.new.self in
    λ j (place : Place). looked_kept owns self.cells c.args.i c.in-Some-Whole.watched new there is (λ p k. c.clear_marks.ensures.pixels k p) place j

pub returns-clause-has : goal.returns-clause-has
returns-clause-has c =
    let at = goal.at.returns-clause-has c in
    let self = c.args.self.now in
    let owns = self.owns.items in
    let there = below at.In-Some-Whole in
    let is = was at.In-Some-Whole there in
    let new = c.clear_marks.new.self in
    λ j (place : Place). looked_has owns self.cells c.args.i c.in-Some-Whole.watched new there is c.clear_marks.ensures.rect place j

pub returns-clause-forms : goal.returns-clause-forms
returns-clause-forms c =
    let at = goal.at.returns-clause-forms c in
    let self = c.args.self.now in
    let owns = self.owns.items in
    let there = below at.In-Some-Whole in
    let is = was at.In-Some-Whole there in
    let new = c.clear_marks.new.self in
    λ j n. looked_forms owns c.args.i c.in-Some-Whole.watched new there is c.clear_marks.ensures.rect c.clear_marks.ensures.chan n j

pub returns-clause-marks : goal.returns-clause-marks
returns-clause-marks c column row =
    let at = goal.at.returns-clause-marks c in
    let self = c.args.self.now in
    let owns = self.owns.items in
    let there = below at.In-Some-Whole in
    let is = was at.In-Some-Whole there in
    let new = c.clear_marks.new.self in
    ap (marked_of column row) (own_same owns c.args.i (Some (Whole new)) there) ∙ c.clear_marks.ensures.marks column row

pub returns-clause-count : goal.returns-clause-count
returns-clause-count c =
    let at = goal.at.returns-clause-count c in
    let self = c.args.self.now in
    let owns = self.owns.items in
    let there = below at.In-Some-Whole in
    let is = was at.In-Some-Whole there in
    let new = c.clear_marks.new.self in
    ap marks_of (own_same owns c.args.i (Some (Whole new)) there) ∙ c.clear_marks.ensures.count

pub returns-clause-moment : goal.returns-clause-moment
returns-clause-moment c =
    let at = goal.at.returns-clause-moment c in
    let self = c.args.self.now in
    let owns = self.owns.items in
    let there = below at.In-Some-Whole in
    let is = was at.In-Some-Whole there in
    let new = c.clear_marks.new.self in
    looked_moments owns c.args.i new (now_of self.writes.sum (own_at (set owns c.args.i (Some (Whole new))) c.args.i)) there (ap (λ (m : Moment). Some m) c.clear_marks.ensures.moment ∙ sym (ap (now_of self.writes.sum) (own_same owns c.args.i (Some (Whole new)) there)))

pub returns-then-not-is_whole-clause-moment : goal.returns-then-not-is_whole-clause-moment
returns-then-not-is_whole-clause-moment c = λ j n. no_moments c.args.self.now.owns.items c.args.i c.args.self.now.writes.sum (c.is_whole.ensures.none c.if-not-is_whole.true) n j
