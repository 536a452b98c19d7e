use Rattle.std.proofs.Common.{rules, ◌≡◌, ◌<◌, ◌++◌, arith}
use Rattle.std.specs.List.{flat_map, range_with_len}
use Rattle.model_clients.specs.page.Text.{cell, cells}
use Rattle.r9_clients.specs.page.Shown.{shape_of}
use Rattle.r9_clients.proofs.drawing.Joins.{one_more}
use Rattle.r9_clients.proofs.page.made.push_cells.Goals as goal

pub loop-code-preserved : goal.loop-code-preserved
loop-code-preserved c =
    let shape = shape_of c.args.shape in
    let lt : c.loop-code.code < cells = omega (arith, c.loop-code-test.true) in
    let piece : c.as_slice.result.now ≡ cell shape c.loop-code.code = search rules in
    one_more (cell shape) cells c.loop-code.code c.loop-code.out c.as_slice.result.now c.push_all.new.self (c.args.out.now ++ flat_map (cell shape) (range_with_len 0 cells)) lt c.loop-code.invariant piece c.in_ok-push_all.ensures.ok
