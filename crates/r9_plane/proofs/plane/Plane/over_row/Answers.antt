use Rattle.std.proofs.Common.{◌≡◌, ◌+◌, ◌*◌, ◌∙◌, ap, sym, length, arith}
use Rattle.std.specs.Prelude.{if◌then◌else◌}
use Rattle.std.proofs.lemmas.List.{with_items_is}
use Rattle.r9_geom.specs.Geometry.{distance, holds, strip}
use Rattle.model_pixel.specs.Rows.{raw_at}
use Rattle.r9_kern.specs.Over.{over_of}
use Rattle.r9_plane.specs.Pixels.{along, pixel_at, pixel_of}
use Rattle.r9_plane.proofs.OverRows.{along_row, where_true}
use Rattle.r9_plane.proofs.PlaneLemmas.{row_read, row_written, run_fits, start_in}
use Rattle.r9_plane.proofs.plane.Plane.over_row.Goals as goal

pub number-first-requires : goal.number-first-requires
number-first-requires c = start_in c.args.self.now.r c.args.at c.args.width (omega arith) c.requires.inside

pub number-from_first-requires : goal.number-from_first-requires
number-from_first-requires c = start_in c.args.other.now.r c.args.from c.args.width (omega arith) c.requires.inside_from

pub over_run-requires-clause-within : goal.over_run-requires-clause-within
over_run-requires-clause-within c =
    let plane = c.args.self.now in
    let bits : plane.depth ≡ 32 = plane.depth_is ∙ c.requires.depth in
    let fits = run_fits plane.r c.args.at c.args.width c.number-first.result plane.depth plane.bytes.len (omega arith) c.requires.inside c.number-first.ensures.value plane.room in
    omega (arith, ap (λ d. (c.number-first.result + c.args.width) * d) bits, fits, c.deref_mut.ensures.len)

pub over_run-requires-clause-from : goal.over_run-requires-clause-from
over_run-requires-clause-from c =
    let other = c.args.other.now in
    let bits : other.depth ≡ 32 = other.depth_is ∙ c.requires.depth_from in
    let fits = run_fits other.r c.args.from c.args.width c.number-from_first.result other.depth other.bytes.len (omega arith) c.requires.inside_from c.number-from_first.ensures.value other.room in
    omega (arith, ap (λ d. (c.number-from_first.result + c.args.width) * d) bits, fits, c.deref.ensures.len)

pub returns-clause-pixels : goal.returns-clause-pixels
unfolding pixel_at
returns-clause-pixels c q =
    let plane = c.args.self.now in
    let other = c.args.other.now in
    let at = c.args.at in
    let first = c.number-first.ensures.value in
    let bytes = c.over_run.new.bytes in
    let size : length bytes ≡ plane.bytes.len = omega arith in
    let depth = c.requires.depth in
    let depth_from = c.requires.depth_from in
    ap (λ items. pixel_of plane.r plane.chan items q) (with_items_is plane.bytes bytes size)
    ∙ row_written plane.r plane.chan plane.bytes.items bytes at c.args.width (λ i. over_of c.args.over (pixel_at other (along c.args.from i)) (pixel_at plane (along at i))) c.requires.inside
    (record {
      written = λ i h.
          (λ t. raw_at (depth t) bytes (sym first t + i))
          ∙ c.over_run.ensures.written i h
          ∙ (λ t. over_of c.args.over
          (((λ t. raw_at (sym depth_from t) (c.deref.ensures.value t) (c.number-from_first.ensures.value t + i)) ∙ row_read other.r other.chan other.bytes.items c.args.from c.args.width i c.requires.inside_from h) t)
          (((λ t. raw_at (sym depth t) (c.deref_mut.ensures.value t) (first t + i)) ∙ row_read plane.r plane.chan plane.bytes.items at c.args.width i c.requires.inside h) t));
      others = λ n apart.
          ap (λ d. raw_at d bytes n) depth
          ∙ c.over_run.ensures.others n (λ i h same. apart i h (same ∙ ap (λ f. f + i) first))
          ∙ (λ t. raw_at (sym depth t) (c.deref_mut.ensures.value t) n);
    }) q
    ∙ where_true (holds (strip at c.args.width) q) _ _ _ (λ h. ap (λ p. over_of c.args.over (pixel_at other (along c.args.from (distance at.x q.x))) (pixel_at plane p)) (along_row at q c.args.width h))
