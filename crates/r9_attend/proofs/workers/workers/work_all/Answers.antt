use Rattle.std.proofs.Common.{◌≡◌, ◌<◌, ◌^◌, arith, sym, subst, length, length-take, take, List}
use Rattle.r9_attend.specs.attend.Calls.{told_ends}
use Rattle.r9_attend.specs.workers.Shifts.{calls_of, share_of, told_doors}
use Rattle.r9_attend.specs.workers.Serving.{Served}
use Rattle.r9_attend.proofs.workers.Bounds.{few_calls}
use Rattle.r9_attend.proofs.workers.InOrder.{in_order}
use Rattle.r9_attend.proofs.workers.Listening.{take_front, drop_front}
use Rattle.r9_attend.proofs.workers.workers.work_all.Goals as goal

pub returns : goal.returns
returns g c =
    let doors = told_doors g.D.Door.ended g.D.Door.over g.D.Door.faults (told_ends g.D.In.Source.left g.D.In.Source.faults g.D.Out.Sink.held g.D.Out.Sink.unflushed g.D.Out.Sink.faults) in
    let few = c.requires.workers.2 in
    let same = c.work_from.auto.doors in
    let long : length c.work_from.new.doors ≡ c.args.workers = omega (arith, length-take c.args.workers c.args.doors.now) in
    let o = c.in_order.ensures in
    let works = c.work_from.ensures.works in
    let calls : length (calls_of works.shifts) < 2 ^ 32 =
    let most = few_calls doors c.args.sessions c.args.workers works.shifts (take c.args.workers c.args.doors.now) c.work_from.new.doors works.each (omega (arith, length-take c.args.workers c.args.doors.now)) in
    let fits = c.ranges.sessions.fits in omega arith in
    let P : List g.row.D.Denot → Type 0 = λ l. Served doors g.T.Serves.server (share_of c.args.sessions c.args.workers) (take c.args.workers c.args.doors.now) l c.args.pass.now c.work_from.new.pass c.in_order.result in
    record {
      served = subst P (sym (take_front c.args.workers c.work_from.new.doors _ long))
          (in_order doors g.T.Serves.server (share_of c.args.sessions c.args.workers) (take c.args.workers c.args.doors.now) c.work_from.new.doors c.args.pass.now c.work_from.new.pass c.work_from.result c.in_order.result c.work_from.ensures calls
          o.same.0 o.same.1 o.same.2 o.same.3 o.listed o.ascending);
      others = drop_front c.args.workers c.work_from.new.doors _ long;
    }
