use Rattle.std.proofs.Common.{rules, ◌≡◌, ◌<◌, ◌++◌, arith}
use Rattle.std.specs.List.{flat_map, range_with_len}
use Rattle.law_desk.specs.bands.Bands.{band}
use Rattle.r9_clients.proofs.drawing.Joins.{one_more}
use Rattle.r9_clients.proofs.pointing.bands.push_bands.Goals as goal

pub loop-item-preserved : goal.loop-item-preserved
loop-item-preserved c =
    let x = c.args.x in
    let y = c.args.y in
    let lt : c.loop-item.item < 5 = omega (arith, c.loop-item-test.true) in
    let piece : c.as_slice.result.now ≡ band x y c.loop-item.item = search rules in
    one_more (band x y) 5 c.loop-item.item c.loop-item.out c.as_slice.result.now c.push_all.new.self (c.args.out.now ++ flat_map (band x y) (range_with_len 0 5)) lt c.loop-item.invariant piece c.in_ok-push_all.ensures.ok
