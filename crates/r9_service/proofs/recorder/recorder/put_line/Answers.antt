use Rattle.std.proofs.Common.{arith}
use Rattle.r9_service.proofs.recorder.Putting.{put_more, rest_within}
use Rattle.r9_service.proofs.recorder.recorder.put_line.Goals as goal

pub loop-part-preserved : goal.loop-part-preserved
loop-part-preserved g c =
    let so_far = c.loop-part.invariant in
    record {
      within = λ le. rest_within c.args.line.now _ _ (so_far.within le) c.in-Ok.ensures.within;
      put = λ le before text was. put_more before _ _ text c.args.line.now _ _ (so_far.within le) c.in-Ok.ensures.within (so_far.put le before text was) c.in-Ok.ensures.put;
      counted = omega (arith, so_far.counted, c.put.ensures.counted);
    }
