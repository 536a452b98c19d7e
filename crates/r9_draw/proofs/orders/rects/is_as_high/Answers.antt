use Rattle.std.proofs.Common.{of_z, w64, ◌∙◌}
use Rattle.std.specs.Prelude.{◌==◌}
use Rattle.r9_draw.proofs.orders.Hosting.{distance-is, height-alike}
use Rattle.r9_draw.proofs.orders.rects.is_as_high.Goals as goal

pub returns : goal.returns
returns c =
    let r = c.args.r.now in
    let old = c.args.old.now in
    let h = c.requires.rect in
    let k = c.requires.old in
    let first = distance-is r.min.y r.max.y c.distance.result h.min.top h.min.bottom h.max.top h.max.bottom c.distance.ensures in
    let second = distance-is old.min.y old.max.y c.distance-2.result k.min.top k.min.bottom k.max.top k.max.bottom c.distance-2.ensures in
    (λ i. of_z w64 (first i) == of_z w64 (second i)) ∙ height-alike r old h k
