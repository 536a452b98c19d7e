use Rattle.std.proofs.Common.{◌≡◌, ◌+◌, Some, None, sym, ap, ◌∙◌, arith}
use Rattle.std.specs.Prelude.{find}
use Rattle.r9_ids.specs.declared.sorted.key.Key.{Key}
use Rattle.r9_ids.specs.sorted.Order.{key}
use Rattle.r9_ids.specs.sorted.Rows.{has_key, without_key}
use Rattle.r9_ids.proofs.sorted.Ascending.{none-kept}
use Rattle.r9_device.specs.client.Rows.{key_of, total_of}
use Rattle.r9_device.proofs.client.Counting.{without-total}
use Rattle.r9_device.proofs.client.sizes.take.Goals as goal

pub returns-in-Some-clause-sum : goal.returns-in-Some-clause-sum
returns-in-Some-clause-sum c =
    let rows = c.args.rows.now.rows in
    let found : find (has_key key_of (key c.args.id 0 0)) rows ≡ Some c.in-Some.row = ap (λ (k : Key). find (has_key key_of k) rows) (sym c.key_of_id.ensures) ∙ sym c.in-Some.ensures.found in
    let left : c.remove.new.self.rows ≡ without_key key_of (key c.args.id 0 0) rows = c.remove.ensures.rows ∙ ap (λ (k : Key). without_key key_of k rows) c.key_of_id.ensures in
    ap (λ rest. total_of rest + c.in-Some.row.size) left ∙ without-total c.args.id rows c.in-Some.row c.remove.ensures.order found

pub returns-in-None-clause-sum : goal.returns-in-None-clause-sum
returns-in-None-clause-sum c =
    let rows = c.args.rows.now.rows in
    let left : c.remove.new.self.rows ≡ rows = c.remove.ensures.rows ∙ none-kept (has_key key_of c.key_of_id.result) rows (sym c.in-None.ensures.found) in
    let same : total_of c.remove.new.self.rows ≡ total_of rows = ap total_of left in
    omega (arith, same)
