use Rattle.std.proofs.Common.{◌+◌, List, refl, arith, sym, ap, subst, set, get_or}
use Rattle.r9_attend.specs.workers.Shifts.{share_of, told_doors}
use Rattle.r9_attend.specs.workers.Steps.{Half}
use Rattle.r9_attend.specs.attend.Calls.{told_ends}
use Rattle.r9_attend.proofs.workers.Halves.{halves_as, list_of_one}
use Rattle.r9_attend.proofs.workers.workers.+halves.Goals as goal

pub work_from-returns : goal.work_from-returns
work_from-returns g t c =
    let cut = c.split_at_mut-front in
    let sp = c.split-later in
    let both = c.both_halves-report in
    let few = c.requires.can.shares in
    halves_as _ g.T.Serves.server (share_of c.args.room.now.sessions c.args.room.now.workers) c.args.worker _ _ c.args.doors.now _ cut.result.0.now cut.result.1.now both.new.front both.new.back c.args.pass.now sp.new.pass sp.result both.new.pass both.new.later c.join.new.pass both.result.0 both.result.1 c.and.result
    both.ensures.front both.ensures.back sp.ensures.kept sp.ensures.given cut.ensures.value refl (ap (λ n. c.args.worker + n) (sym cut.ensures.front_len)) (omega (arith, cut.ensures.back_len)) c.join.ensures.both c.join.ensures.seen.0 c.join.ensures.seen.1
    c.and.ensures.door_fault c.and.ensures.spent c.and.ensures.memory c.and.ensures.lists

pub work_from-returns-then-count-eq1 : goal.work_from-returns-then-count-eq1
work_from-returns-then-count-eq1 g t c =
    let one = list_of_one c.args.doors.now (get_or c.args.doors.now 0 c.index-doors-0.result) c.if-count-eq1.true (ap (λ d. get_or c.args.doors.now 0 d) c.index-doors-0.is) in
    let P : List g.row.D.Denot → Type 0 = λ l. Half (told_doors g.D.Door.ended g.D.Door.over g.D.Door.faults (told_ends g.D.In.Source.left g.D.In.Source.faults g.D.Out.Sink.held g.D.Out.Sink.unflushed g.D.Out.Sink.faults)) g.T.Serves.server
    (share_of c.args.room.now.sessions c.args.room.now.workers) c.args.worker l (set l 0 c.work_alone.new.door) c.args.pass.now c.work_alone.new.pass c.work_alone.result in
    subst P (sym one) c.work_alone.ensures
