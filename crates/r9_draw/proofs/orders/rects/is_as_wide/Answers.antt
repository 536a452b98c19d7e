use Rattle.std.proofs.Common.{of_z, w64, ◌∙◌}
use Rattle.std.specs.Prelude.{◌==◌}
use Rattle.r9_draw.proofs.orders.Hosting.{distance-is, width-alike}
use Rattle.r9_draw.proofs.orders.rects.is_as_wide.Goals as goal

pub returns : goal.returns
returns c =
    let r = c.args.r.now in
    let old = c.args.old.now in
    let h = c.requires.rect in
    let k = c.requires.old in
    let first = distance-is r.min.x r.max.x c.distance.result h.min.left h.min.right h.max.left h.max.right c.distance.ensures in
    let second = distance-is old.min.x old.max.x c.distance-2.result k.min.left k.min.right k.max.left k.max.right c.distance-2.ensures in
    (λ i. of_z w64 (first i) == of_z w64 (second i)) ∙ width-alike r old h k
