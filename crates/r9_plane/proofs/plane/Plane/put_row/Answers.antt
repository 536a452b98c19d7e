use Rattle.std.proofs.Common.{◌≡◌, ◌+◌, ◌∙◌, ap, sym, subst, ◌^◌, get_or, length, arith}
use Rattle.std.proofs.lemmas.List.{with_items_is}
use Rattle.model_pixel.specs.Rows.{raw_at}
use Rattle.std.specs.Prelude.{◌||◌}
use Rattle.r9_geom.specs.declared.Rect.{Rect}
use Rattle.r9_geom.specs.Geometry.{area_of, holds, IsOrdered}
use Rattle.r9_geom.proofs.GeometryLemmas.{near_point, width_most}
use Rattle.r9_marks.specs.marks.Marks.{marked}
use Rattle.r9_plane.specs.Marks.{touched}
use Rattle.r9_plane.specs.Pixels.{pixel_at, pixel_of}
use Rattle.r9_plane.proofs.PlaneLemmas.{row_written, run_below, run_narrow, run_fits, some_of, start_in}
use Rattle.r9_plane.proofs.Marking.{strip_area, strip_ordered}
use Rattle.r9_plane.proofs.plane.Plane.put_row.Goals as goal

pub number-first-requires : goal.number-first-requires
number-first-requires g c = start_in c.args.self.now.r c.args.at (length c.args.raws.now) (some_of (length c.args.raws.now) c.is_empty.ensures c.if-is_empty.false) c.requires.inside

pub write_run-requires-clause-numbers : goal.write_run-requires-clause-numbers
write_run-requires-clause-numbers g c =
    let plane = c.args.self.now in
    omega (arith, run_below plane.r c.args.at (length c.args.raws.now) (some_of (length c.args.raws.now) c.is_empty.ensures c.if-is_empty.false) c.requires.inside, c.number-first.ensures.value, plane.countable)

pub write_run-requires-clause-within : goal.write_run-requires-clause-within
write_run-requires-clause-within g c =
    let plane = c.args.self.now in
    let fits = run_fits plane.r c.args.at (length c.args.raws.now) c.number-first.result plane.depth plane.bytes.len (some_of (length c.args.raws.now) c.is_empty.ensures c.if-is_empty.false) c.requires.inside c.number-first.ensures.value plane.room in
    omega (arith, fits, c.deref_mut.ensures.len)

pub returns-clause-pixels : goal.returns-clause-pixels
unfolding pixel_at
returns-clause-pixels g c q =
    let plane = c.args.self.now in
    let first = c.number-first.ensures.value in
    let bytes = c.write_run.new.bytes in
    let size : length bytes ≡ plane.bytes.len = omega arith in
    ap (λ pixels. pixels q) c.mark.ensures.pixels
    ∙ ap (λ items. pixel_of plane.r plane.chan items q) (with_items_is plane.bytes bytes size)
    ∙ row_written plane.r plane.chan plane.bytes.items bytes c.args.at (length c.args.raws.now) (λ i. get_or c.args.raws.now i 0) c.requires.inside
    (record {
      written = λ i h. (λ t. raw_at (sym plane.depth_is t) bytes (sym first t + i)) ∙ c.write_run.ensures.written i h;
      others = λ n apart.
          ap (λ d. raw_at d bytes n) (sym plane.depth_is)
          ∙ c.write_run.ensures.others n (λ i h same. apart i h (same ∙ ap (λ f. f + i) first))
          ∙ (λ t. raw_at (plane.depth_is t) (c.deref_mut.ensures.value t) n);
    }) q

pub strip-requires-clause-at : goal.strip-requires-clause-at
strip-requires-clause-at g c = near_point (2 ^ 40) c.args.self.now.r c.args.at c.args.self.now.near (start_in c.args.self.now.r c.args.at (length c.args.raws.now) (some_of (length c.args.raws.now) c.is_empty.ensures c.if-is_empty.false) c.requires.inside)

pub strip-requires-clause-len : goal.strip-requires-clause-len
strip-requires-clause-len g c =
    let plane = c.args.self.now in
    let narrow = run_narrow plane.r c.args.at (length c.args.raws.now) (some_of (length c.args.raws.now) c.is_empty.ensures c.if-is_empty.false) c.requires.inside in
    omega (arith, narrow, width_most plane.r plane.near plane.ordered)

pub mark-requires-clause-ordered : goal.mark-requires-clause-ordered
mark-requires-clause-ordered g c = subst IsOrdered (sym c.strip.ensures) (strip_ordered c.args.at (length c.args.raws.now))

pub mark-requires-clause-inside : goal.mark-requires-clause-inside
mark-requires-clause-inside g c = λ q h. c.requires.inside q (ap (λ (part : Rect). holds part q) (sym c.strip.ensures) ∙ h)

pub returns-clause-marks : goal.returns-clause-marks
returns-clause-marks g c column row =
    c.mark.ensures.marks column row ∙ ap (λ (part : Rect). touched c.args.self.now.r part column row || marked c.args.self.now.marks column row) c.strip.ensures

pub returns-clause-few : goal.returns-clause-few
returns-clause-few g c = omega (arith, c.mark.ensures.few, ap area_of c.strip.ensures, strip_area c.args.at (length c.args.raws.now))

pub returns-clause-steps : goal.returns-clause-steps
returns-clause-steps g c = omega (arith, c.mark.ensures.steps, ap area_of c.strip.ensures, strip_area c.args.at (length c.args.raws.now))
