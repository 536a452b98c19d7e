use Rattle.std.proofs.Common.{◌≡◌, ◌∙◌, ap, sym, subst, ◌^◌, arith, length}
use Rattle.std.proofs.lemmas.List.{with_items_is}
use Rattle.model_pixel.specs.Rows.{raw_at}
use Rattle.std.specs.Prelude.{◌||◌}
use Rattle.r9_geom.specs.declared.Rect.{Rect}
use Rattle.r9_geom.specs.Geometry.{area_of, holds, IsOrdered}
use Rattle.r9_geom.proofs.GeometryLemmas.{near_point}
use Rattle.r9_marks.specs.marks.Marks.{marked}
use Rattle.r9_plane.specs.Marks.{touched}
use Rattle.r9_plane.specs.Pixels.{pixel_at, pixel_of}
use Rattle.r9_plane.proofs.PlaneLemmas.{put_pixels}
use Rattle.r9_plane.proofs.Marking.{one_point, strip_area, strip_ordered}
use Rattle.r9_plane.proofs.plane.Plane.put.Goals as goal

pub returns-clause-pixels : goal.returns-clause-pixels
unfolding pixel_at
returns-clause-pixels g c q =
    let plane = c.args.self.now in
    let number = c.number-number.ensures.value in
    let bytes = c.write.new.bytes in
    let size : length bytes ≡ plane.bytes.len = omega arith in
    ap (λ pixels. pixels q) c.mark.ensures.pixels
    ∙ ap (λ items. pixel_of plane.r plane.chan items q) (with_items_is plane.bytes bytes size)
    ∙ put_pixels plane.r plane.chan plane.bytes.items bytes c.args.p c.args.raw (record {
      inside = c.requires.inside;
      written = (λ i. raw_at (sym plane.depth_is i) bytes (sym number i)) ∙ c.write.ensures.written;
      others = λ n other.
          ap (λ d. raw_at d bytes n) (sym plane.depth_is)
          ∙ c.write.ensures.others n (λ same. other (same ∙ number))
          ∙ (λ i. raw_at (plane.depth_is i) (c.deref_mut.ensures.value i) n);
    }) q

pub strip-requires-clause-at : goal.strip-requires-clause-at
strip-requires-clause-at g c = near_point (2 ^ 40) c.args.self.now.r c.args.p c.args.self.now.near c.requires.inside

pub mark-requires-clause-ordered : goal.mark-requires-clause-ordered
mark-requires-clause-ordered g c = subst IsOrdered (sym c.strip.ensures) (strip_ordered c.args.p 1)

pub mark-requires-clause-inside : goal.mark-requires-clause-inside
mark-requires-clause-inside g c = λ q h. let same = one_point c.args.p q (ap (λ (part : Rect). holds part q) (sym c.strip.ensures) ∙ h) in ap (holds c.args.self.now.r) same ∙ c.requires.inside

pub returns-clause-marks : goal.returns-clause-marks
returns-clause-marks g c column row =
    c.mark.ensures.marks column row ∙ ap (λ (part : Rect). touched c.args.self.now.r part column row || marked c.args.self.now.marks column row) c.strip.ensures

pub returns-clause-few : goal.returns-clause-few
returns-clause-few g c = omega (arith, c.mark.ensures.few, ap area_of c.strip.ensures, strip_area c.args.p 1)

pub returns-clause-steps : goal.returns-clause-steps
returns-clause-steps g c = omega (arith, c.mark.ensures.steps, ap area_of c.strip.ensures, strip_area c.args.p 1)
