use Rattle.std.proofs.Common.{List, ap, ◌∙◌, subst, sym, arith}
use Rattle.r9_ids.specs.declared.sorted.key.Key.{Key}
use Rattle.r9_ids.specs.sorted.Order.{comes_before}
use Rattle.r9_ids.specs.sorted.Rows.{Ascend}
use Rattle.r9_ids.specs.sorted.Pieces.{ends_before}
use Rattle.r9_ids.proofs.sorted.Inside.{ends-some}
use Rattle.r9_ids.proofs.sorted.piece.Piece.ends_before.Goals as goal

pub returns-in-Some : goal.returns-in-Some
returns-in-Some g c =
    let key_of = g.T.Keyed.key_of in
    let row = c.in-Some.row.now in
    c.comes_before.ensures ∙ ap (λ (k : Key). comes_before k c.args.key) c.key.ensures
    ∙ ends-some key_of c.args.key c.deref.result.now row (subst (λ (xs : List _). Ascend key_of xs) (sym c.deref.ensures.value) c.self.invariant.0) c.in-Some.ensures.item.3.0 (c.in-Some.ensures.item.4 (omega arith) row)
    ∙ ap (ends_before key_of c.args.key) (c.deref.ensures.value ∙ c.self.view_is)
