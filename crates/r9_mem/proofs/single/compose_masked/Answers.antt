use Rattle.std.proofs.Common.{ℕ, length, get_or, ap, ◌∙◌, arith}
use Rattle.model_pixel.specs.Composition.{composed_raw}
use Rattle.r9_chan.specs.Op.{number}
use Rattle.r9_mem.proofs.Parts.{repeated}
use Rattle.r9_mem.proofs.single.compose_masked.Goals as goal

pub returns : goal.returns
returns c i less =
    let n = length c.args.d.now in
    c.compose_row.ensures i less
    ∙ ap (λ (m : ℕ). composed_raw c.args.dst.now c.args.src.now c.args.grey.now (number c.args.op) (get_or c.args.s.now i 0) m (get_or c.args.d.now i 0)) (repeated 256 n i c.from-masks.result (omega arith) (omega arith) ∙ c.from-masks.ensures)
