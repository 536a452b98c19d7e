use Rattle.std.proofs.Common.{List, length, sym, ap, subst, ◌∙◌}
use Rattle.r9_ids.specs.sorted.Rows.{Ascend}
use Rattle.r9_ids.specs.sorted.Pieces.{joined}
use Rattle.r9_ids.proofs.sorted.Ascending.{ascend-set, length-set_row}
use Rattle.r9_ids.proofs.sorted.sorted.Sorted.set.Goals as goal

pub invariant_of-self : goal.invariant_of-self
invariant_of-self g c =
    let key_of = g.T.Keyed.key_of in (
      subst (λ (xs : List _). Ascend key_of xs) (sym c.set_among.ensures.rows) (ascend-set key_of c.args.row (joined c.self.inside.pieces.items) c.self.invariant.0),
      record {
        filled = c.set_among.ensures.filled;
        spare_empty = c.self.invariant.1.spare_empty;
        counted = c.self.invariant.1.counted ∙ sym (ap length c.set_among.ensures.rows ∙ length-set_row key_of c.args.row (joined c.self.inside.pieces.items));
      },
    )
