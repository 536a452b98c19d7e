use Rattle.std.proofs.Common.{rules, ◌≡◌, ℕ, [], sym, ap, subst, ◌∙◌}
use Rattle.std.specs.Prelude.{is_ok}
use Rattle.std.specs.declared.snapshot.Snapshot.{Snapshot}
use Rattle.r9_service.specs.recorder.Recording.{Loan, Records}
use Rattle.r9_attend.specs.attend.Calls.{told_ends}
use Rattle.r9_attend.specs.workers.Shifts.{told_doors}
use Rattle.r9_service.specs.service.Serving.{Serving, Side, side}
use Rattle.r9_service.proofs.service.Fresh.{fresh_records}
use Rattle.r9_service.proofs.service.Whole.{serving, lists_of}
use Rattle.r9_service.proofs.service.serving.serve_hall.Goals as goal

-- the recorder stands for the empty history, from when the sink was lent
pub serve_over-recorder-requires-clause-recorder : goal.serve_over-recorder-requires-clause-recorder
serve_over-recorder-requires-clause-recorder g c κs within =
    let new = c.new-recorder.ensures in
    let none = new.fresh in
    let lent = c.new-recorder.result.out in
    let begun = c.begin.new.self in
    let is_lent : begun.lent.value ≡ lent.now = ap (λ (l : Snapshot g.row.O.Denot). l.value) c.begin.ensures.lent ∙ new.out.1 ∙ sym new.out.0 in
    let records = c.begin.ensures.records _ [] (fresh_records g.H.Keeps.first g.H.Keeps.stands g.O.Sink.held g.O.Sink.faults c.new-recorder.result
    (subst (λ h. g.H.Keeps.stands h []) (sym new.hall) c.requires.stands) (ap g.H.Keeps.first new.hall ∙ c.requires.first)
    none.0 none.1 none.2 none.3) in
    subst (λ (o : g.row.O.Denot). Records g.H.Keeps.first g.H.Keeps.stands g.O.Sink.held g.O.Sink.faults (record { name = begun.out.ghost_name; held = g.O.Sink.held o; faults = g.O.Sink.faults o }) begun []) (sym is_lent)
    (subst (λ (n : ℕ). Records g.H.Keeps.first g.H.Keeps.stands g.O.Sink.held g.O.Sink.faults (record { name = n; held = g.O.Sink.held lent.now; faults = g.O.Sink.faults lent.now }) begun []) (sym c.begin.ensures.same) records)

pub serve_over-recorder-requires-clause-first : goal.serve_over-recorder-requires-clause-first
serve_over-recorder-requires-clause-first g c κs within = ap g.H.Keeps.first (c.begin.ensures.hall ∙ c.new-recorder.ensures.hall) ∙ c.requires.first

pub serve_over-recorder-requires-clause-opening : goal.serve_over-recorder-requires-clause-opening
serve_over-recorder-requires-clause-opening g c κs within = ap g.H.Keeps.opening (c.begin.ensures.hall ∙ c.new-recorder.ensures.hall) ∙ c.requires.opening

pub returns : goal.returns
returns g c =
    let doors = told_doors g.D.Door.ended g.D.Door.over g.D.Door.faults (told_ends g.D.In.Source.left g.D.In.Source.faults g.D.Out.Sink.held g.D.Out.Sink.unflushed g.D.Out.Sink.faults) in
    let service = c.args.service.now in
    let begun = c.begin.new.self in
    let was = begun.lent.value in
    let is_lent : was ≡ c.args.out.now = ap (λ (l : Snapshot g.row.O.Denot). l.value) c.begin.ensures.lent ∙ c.new-recorder.ensures.out.1 in
    let loan : Loan = record { name = begun.out.ghost_name; held = g.O.Sink.held was; faults = g.O.Sink.faults was } in
    let run = c.serve_over-recorder in
    let history = run.ensures.ran.0 in
    let records = run.ensures.ran.1 in
    let ran = run.ensures.ran.2 in
    let end = c.finish-finished in
    let out = end.new.self.out.now in
    let put = c.put_report-told in
    let side_of = λ (o : g.row.O.Denot). side (g.O.Sink.held o) (g.O.Sink.unflushed o) (g.O.Sink.faults o) in
    let err_old : Side = side (g.E.Sink.held c.args.err.now) (g.E.Sink.unflushed c.args.err.now) (g.E.Sink.faults c.args.err.now) in
    let err : Side = side (g.E.Sink.held put.new.err) (g.E.Sink.unflushed put.new.err) (g.E.Sink.faults put.new.err) in
    let lists = lists_of doors run.new.report.sessions (λ list. list.items) ran.shifts put.result err_old.held err.held ran.listed put.ensures.ok put.ensures.part put.ensures.none in
    let all = serving doors service.opening service.sessions service.workers c.args.doors.now run.new.doors history run.new.report c.is_stopped-stopped.result put.result end.result
    (side_of was) (side_of out) err_old err ran (c.is_stopped-stopped.ensures loan history records)
    (record { whole = end.ensures.ok loan history records; front = end.ensures.part loan history records; flushed = end.ensures.flushed; failed = end.ensures.failed loan history records })
    put.ensures.failed lists in
    let found = c.outcome_of.ensures in
    let told = c.is_ok.ensures.value in
    subst (λ (o : g.row.O.Denot). Serving doors service.opening service.sessions service.workers c.outcome_of.result c.is_ok.result c.args.doors.now run.new.doors (side_of c.args.out.now) (side_of o) err_old err) (search rules)
    (subst (λ (o : g.row.O.Denot). Serving doors service.opening service.sessions service.workers c.outcome_of.result c.is_ok.result c.args.doors.now run.new.doors (side_of o) (side_of out) err_old err) is_lent
    (subst (λ t. Serving doors service.opening service.sessions service.workers c.outcome_of.result t c.args.doors.now run.new.doors (side_of was) (side_of out) err_old err) (sym told)
    (subst (λ f. Serving doors service.opening service.sessions service.workers f (is_ok put.result) c.args.doors.now run.new.doors (side_of was) (side_of out) err_old err) (sym found) all)))
