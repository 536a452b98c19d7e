use Rattle.std.proofs.Common.{◌+◌, drop, arith}
use Rattle.r9_serve.proofs.replay.Lines.{put_more, part_more, part_so_far, cut_first, marks_left}
use Rattle.r9_serve.proofs.replay.log.put_most.Goals as goal

pub returns-in_err-put_line-clause-part : goal.returns-in_err-put_line-clause-part
returns-in_err-put_line-clause-part g c =
    part_more _ (drop c.loop-mark.mark-index c.args.marks.now) (drop (c.loop-mark.mark-index + 1) c.args.marks.now) _ c.loop-mark.rest.now c.split_at.result.0.now c.split_at.result.1.now _ _ _ _
    (marks_left c.args.marks.now c.loop-mark.mark-index _ c.loop-mark-test.true) c.split_at.ensures.front c.split_at.ensures.back c.loop-mark.invariant.put c.in_err-put_line.ensures.part

pub loop-mark-preserved : goal.loop-mark-preserved
loop-mark-preserved g c =
    let here = marks_left c.args.marks.now c.loop-mark.mark-index _ c.loop-mark-test.true in
    record {
      put = put_more _ (drop c.loop-mark.mark-index c.args.marks.now) (drop (c.loop-mark.mark-index + 1) c.args.marks.now) _ c.loop-mark.rest.now c.split_at.result.0.now c.split_at.result.1.now _ _ _ _ _
          here c.split_at.ensures.front c.split_at.ensures.back c.loop-mark.invariant.put c.in_ok-put_line.ensures.ok;
      cut = (cut_first _ _ _ c.loop-mark.rest.now _ here c.split_at.ensures.back c.loop-mark.invariant.cut).1;
      counted = omega (arith, c.loop-mark.invariant.counted, c.in_ok-put_line.ensures.counted);
    }

pub returns-clause-part : goal.returns-clause-part
returns-clause-part g c =
    part_so_far _ c.loop-mark.invariant.put.put _ _ _ c.loop-mark.invariant.put.appended c.loop-mark.invariant.put.are
