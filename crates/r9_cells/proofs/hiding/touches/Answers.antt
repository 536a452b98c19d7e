use Rattle.std.proofs.Common.{◌∙◌, sym, ap}
use Rattle.std.specs.Prelude.{not}
use Rattle.r9_cells.proofs.Touching.{none_meets, same_common}
use Rattle.r9_cells.proofs.hiding.touches.Goals as goal

pub returns-then-not-reaches : goal.returns-then-not-reaches
returns-then-not-reaches c = sym (ap not (c.reaches.ensures.off c.if-not-reaches.true))

pub returns-then-not-is_empty : goal.returns-then-not-is_empty
returns-then-not-is_empty c =
    let near = c.reaches.ensures in
    let is = c.if-not-reaches.false in
    ap not (c.is_empty-then-not-is_empty.ensures.exact ∙ same_common c.args.r.now c.args.area.now (sym c.is_empty.ensures.exact ∙ c.if-not-is_empty.true) (near.left is) (near.right is) (near.top is) (near.bottom is))

pub returns-else-not-is_empty : goal.returns-else-not-is_empty
returns-else-not-is_empty c = ap not (c.if-not-is_empty.false ∙ sym (none_meets c.args.r.now c.args.area.now (sym c.is_empty.ensures.exact ∙ c.if-not-is_empty.false)))
