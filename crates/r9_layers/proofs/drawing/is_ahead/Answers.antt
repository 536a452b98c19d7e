use Rattle.std.proofs.Common.{◌∙◌, int_le, w64, sym, arith}
use Rattle.std.proofs.lemmas.Int.{ints, to_z-of_z}
use Rattle.r9_forest.specs.Images.{world}
use Rattle.r9_layers.proofs.Areas.{int_le_true}
use Rattle.r9_layers.proofs.Rows.{ahead_since}
use Rattle.r9_layers.proofs.drawing.is_ahead.Goals as goal

pub returns : goal.returns
returns c told =
    let task = c.args.task.now in
    let corner = to_z-of_z w64 task.r.min.y (omega (arith, ints, task.near.min.top, task.near.min.bottom)) in
    let start = to_z-of_z w64 task.sp.y (omega (arith, ints, task.source_near.top, task.source_near.bottom)) in
    ahead_since (world c.args.images.now) task c.info-info.result c.info-info.ensures (omega (arith, c.if-task.false)) (omega (arith, c.if-info-ne0.false)) c.if-info.false
    (int_le_true task.r.min.y task.sp.y ((λ i. int_le (sym corner i) (sym start i)) ∙ sym c.is_at_most.ensures ∙ told))
