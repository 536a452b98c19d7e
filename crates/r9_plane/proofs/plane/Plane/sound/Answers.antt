use Rattle.std.proofs.Common.{◌≡◌, ◌∙◌, ◌^◌, ◌<◌, ℕ, List, subst}
use Rattle.model_pixel.specs.Rows.{raw_at}
use Rattle.r9_marks.specs.marks.Cells.{count_cells}
use Rattle.r9_marks.specs.marks.Marks.{marked}
use Rattle.r9_plane.specs.Pixels.{pixel_at}
use Rattle.r9_plane.proofs.Fitting.{pixel_below}
use Rattle.r9_plane.proofs.plane.Plane.sound.Goals as goal

pub returns-clause-counted : goal.returns-clause-counted
returns-clause-counted c =
    let plane = c.args.self.now in
    c.sound.ensures ∙ (λ i. count_cells (plane.across i) (plane.down i) (marked plane.marks))

pub returns-clause-fits : goal.returns-clause-fits
unfolding pixel_at
returns-clause-fits c =
    let plane = c.args.self.now in
    λ p. pixel_below plane.r plane.chan plane.bytes.items p
    (λ n. subst (λ (d : ℕ). raw_at d plane.bytes.items n < 2 ^ d) plane.depth_is (subst (λ (l : List ℕ). raw_at plane.depth l n < 2 ^ plane.depth) c.deref.ensures.value (c.sound-2.ensures n)))
