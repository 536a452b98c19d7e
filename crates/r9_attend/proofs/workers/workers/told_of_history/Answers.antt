use Rattle.std.proofs.Common.{arith, sym, ◌∙◌}
use Rattle.model_history.specs.event.Journal.{events_of}
use Rattle.r9_attend.specs.attend.Calls.{told_ends}
use Rattle.r9_attend.specs.workers.Shifts.{told_doors, calls_of}
use Rattle.r9_attend.proofs.workers.Halves.{doors_length}
use Rattle.r9_attend.proofs.workers.History.{told}
use Rattle.r9_attend.proofs.workers.InOrder.{all_fine}
use Rattle.r9_attend.proofs.workers.workers.told_of_history.Goals as goal

pub returns : goal.returns
returns g c = λ share old new before after report value history few empty served whole legal.
    let doors = told_doors g.D.Door.ended g.D.Door.over g.D.Door.faults (told_ends g.D.In.Source.left g.D.In.Source.faults g.D.Out.Sink.held g.D.Out.Sink.unflushed g.D.Out.Sink.faults) in
    let works = served.works in
    let shifts = doors_length doors share 1 works.shifts old new works.each in
    let history_told = told doors g.T.Serves.server g.T.Chronicle.stands before after value history works.shifts empty works.pass.made works.made works.calls works.in_turn (omega (arith, shifts, few)) served.few whole legal in
    (history_told, λ memory spent. all_fine doors g.T.Serves.server (events_of history) (calls_of works.shifts) history_told.each (works.memory memory).calls (sym works.spent ∙ spent))
