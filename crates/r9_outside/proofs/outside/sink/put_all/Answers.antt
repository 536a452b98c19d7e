use Rattle.std.proofs.Common.{arith}
use Rattle.r9_outside.proofs.outside.Appended.{put_more, rest_within}
use Rattle.r9_outside.proofs.outside.sink.put_all.Goals as goal

pub loop-done-preserved : goal.loop-done-preserved
loop-done-preserved g c =
    let so_far = c.loop-done.invariant in
    record {
      within = rest_within c.args.piece.now _ _ so_far.within c.in_ok-done.ensures.within;
      put = put_more _ _ _ c.args.piece.now _ _ so_far.within c.in_ok-done.ensures.within so_far.put c.in_ok-done.ensures.put;
      counted = omega (arith, c.put.ensures.counted);
    }
