use Rattle.std.proofs.Common.{◌≡◌, List, None, Some, find, length, sym, ap, subst, ◌∙◌, arith}
use Rattle.r9_ids.specs.sorted.Rows.{Ascend, has_key, without_key}
use Rattle.r9_ids.specs.sorted.Pieces.{joined}
use Rattle.r9_ids.proofs.sorted.Ascending.{ascend-filter, length-without, none-kept}
use Rattle.r9_ids.proofs.sorted.sorted.Sorted.remove.Goals as goal

pub invariant_of-self : goal.invariant_of-self
invariant_of-self g c =
    let key_of = g.T.Keyed.key_of in
    let none : find (has_key key_of c.args.key) (joined c.self.inside.pieces.items) ≡ None = sym c.remove_among.ensures.found ∙ c.in_err-found.was in
    let same : joined c.remove_among.new.pieces.items ≡ joined c.self.inside.pieces.items = c.remove_among.ensures.rows ∙ none-kept (has_key key_of c.args.key) (joined c.self.inside.pieces.items) none in (
      subst (λ (xs : List _). Ascend key_of xs) (sym same) c.self.invariant.0,
      record {
        filled = c.remove_among.ensures.filled;
        spare_empty = c.self.invariant.1.spare_empty;
        counted = c.self.invariant.1.counted ∙ sym (ap length same);
      },
    )

pub invariant_of-self-2 : goal.invariant_of-self-2
invariant_of-self-2 g c =
    let key_of = g.T.Keyed.key_of in
    let there : find (has_key key_of c.args.key) (joined c.self.inside.pieces.items) ≡ Some c.in_ok-found.found = sym c.remove_among.ensures.found ∙ c.in_ok-found.was in
    let fewer = length-without key_of c.args.key (joined c.self.inside.pieces.items) c.in_ok-found.found c.self.invariant.0 there in
    let same : length (joined c.remove_among.new.pieces.items) ≡ length (without_key key_of c.args.key (joined c.self.inside.pieces.items)) = ap length c.remove_among.ensures.rows in (
      subst (λ (xs : List _). Ascend key_of xs) (sym c.remove_among.ensures.rows) (ascend-filter key_of _ (joined c.self.inside.pieces.items) c.self.invariant.0),
      record {
        filled = c.remove_among.ensures.filled;
        spare_empty = c.self.invariant.1.spare_empty;
        counted = omega (arith, c.self.invariant.1.counted, fewer, same);
      },
    )
