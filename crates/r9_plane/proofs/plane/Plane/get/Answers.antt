use Rattle.std.proofs.Common.{◌∙◌, sym}
use Rattle.model_pixel.specs.Rows.{raw_at}
use Rattle.r9_plane.specs.Pixels.{pixel_at}
use Rattle.r9_plane.proofs.PlaneLemmas.{pixel_inside}
use Rattle.r9_plane.proofs.plane.Plane.get.Goals as goal

pub returns-clause-value : goal.returns-clause-value
unfolding pixel_at
returns-clause-value c =
    let plane = c.args.self.now in
    c.read.ensures.value ∙ (λ i. raw_at (plane.depth_is i) (c.deref.ensures.value i) (c.number.ensures.value i))
    ∙ sym (pixel_inside plane.r plane.chan plane.bytes.items c.args.p c.requires)
