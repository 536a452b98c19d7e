use Rattle.std.proofs.Common.{ap, ◌∙◌, arith}
use Rattle.std.specs.Prelude.{find}
use Rattle.model_text.specs.text.Map.{and}
use Rattle.r9_ids.specs.sorted.Order.{key}
use Rattle.r9_ids.specs.sorted.Rows.{has_key, put_in_order}
use Rattle.r9_ids.proofs.sorted.Ascending.{gone}
use Rattle.r9_device.specs.declared.client.size.Size.{Size}
use Rattle.r9_device.specs.client.Counted.{Counted}
use Rattle.r9_device.specs.client.Rows.{entries_of, key_of, total_of}
use Rattle.r9_device.proofs.client.Counting.{put-total, set-rows}
use Rattle.r9_device.proofs.client.sizes.Sizes.set.Goals as goal

pub put-requires-clause-absent : goal.put-requires-clause-absent
put-requires-clause-absent c =
    ap (find (has_key key_of (key c.args.id 0 0))) c.take-before.ensures.rows ∙ gone (has_key key_of (key c.args.id 0 0)) c.self.inside.rows.rows

pub invariant_of-self : goal.invariant_of-self
invariant_of-self c =
    let row : Size = record { id = c.args.id; size = c.args.size } in
    omega (arith, ap total_of c.put.ensures.rows, put-total row c.take-before.new.rows.rows, c.take-before.ensures.sum, c.self.invariant, c.from.ensures, c.from-2.ensures)

pub returns : goal.returns
returns c =
    let row : Size = record { id = c.args.id; size = c.args.size } in
    ap entries_of (c.put.ensures.rows ∙ ap (put_in_order key_of row) c.take-before.ensures.rows)
    ∙ set-rows row c.self.inside.rows.rows c.take-before.ensures.order
    ∙ ap (λ (s : Counted). and s.entries c.args.id c.args.size) c.self.view_is
