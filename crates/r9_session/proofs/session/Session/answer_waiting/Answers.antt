use Rattle.std.proofs.lemmas.Result.{on_ok_weaker}
use Rattle.r9_session.proofs.Awaited.{answered_of, fits_of, holds_of, kept_of, none_of}
use Rattle.r9_session.proofs.session.Session.answer_waiting.Goals as goal

pub returns-clause-answered : goal.returns-clause-answered
returns-clause-answered g c =
    answered_of (g.O.Outside.outside c.args.number) c.args.self.now c.answer_from.new.self (g.O.Outside.state c.args.outside.now) (g.O.Outside.state c.answer_from.new.outside) c.answer_from.result c.answer_from.ensures

pub returns-clause-none : goal.returns-clause-none
returns-clause-none g c =
    none_of (g.O.Outside.outside c.args.number) c.args.self.now c.answer_from.new.self (g.O.Outside.state c.args.outside.now) (g.O.Outside.state c.answer_from.new.outside) c.answer_from.result c.answer_from.ensures

pub returns-clause-kept : goal.returns-clause-kept
returns-clause-kept g c =
    kept_of (g.O.Outside.outside c.args.number) c.args.self.now c.answer_from.new.self (g.O.Outside.state c.args.outside.now) (g.O.Outside.state c.answer_from.new.outside) c.answer_from.result c.answer_from.ensures

pub returns-clause-fits : goal.returns-clause-fits
returns-clause-fits g c =
    fits_of (g.O.Outside.outside c.args.number) c.args.self.now c.answer_from.new.self (g.O.Outside.state c.args.outside.now) (g.O.Outside.state c.answer_from.new.outside) c.answer_from.result c.answer_from.ensures

pub returns-clause-linked : goal.returns-clause-linked
returns-clause-linked g c =
    on_ok_weaker c.answer_from.result (λ holds. holds.0)
    (holds_of (g.O.Outside.outside c.args.number) c.args.self.now c.answer_from.new.self (g.O.Outside.state c.args.outside.now) (g.O.Outside.state c.answer_from.new.outside) (g.O.Outside.linked c.args.number) (g.O.Outside.others c.args.number)
    c.answer_from.result c.requires (g.met.O.Outside.others_stay c.args.number (g.O.Outside.state c.args.outside.now)) (λ left is. g.met.O.Outside.late_links c.args.number c.args.self.now (g.O.Outside.state c.args.outside.now) left c.requires is) c.answer_from.ensures)

pub returns-clause-others : goal.returns-clause-others
returns-clause-others g c =
    on_ok_weaker c.answer_from.result (λ holds. holds.1)
    (holds_of (g.O.Outside.outside c.args.number) c.args.self.now c.answer_from.new.self (g.O.Outside.state c.args.outside.now) (g.O.Outside.state c.answer_from.new.outside) (g.O.Outside.linked c.args.number) (g.O.Outside.others c.args.number)
    c.answer_from.result c.requires (g.met.O.Outside.others_stay c.args.number (g.O.Outside.state c.args.outside.now)) (λ left is. g.met.O.Outside.late_links c.args.number c.args.self.now (g.O.Outside.state c.args.outside.now) left c.requires is) c.answer_from.ensures)
