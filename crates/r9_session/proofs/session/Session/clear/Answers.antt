use Rattle.std.proofs.Common.{◌∙◌, sym}
use Rattle.r9_session.specs.Clients.{left_of}
use Rattle.r9_session.proofs.Gone.{cleared_of}
use Rattle.r9_session.proofs.session.Session.clear.Goals as goal

pub returns-clause-cleared : goal.returns-clause-cleared
returns-clause-cleared g c =
    cleared_of (g.O.Outside.outside c.args.number) c.args.self.now (g.O.Outside.state c.args.outside.now) (g.O.Outside.state c.leave.new.outside) c.in_ok-leave.ensures.outside
    ∙ (λ j. left_of (record (sym c.self.view_is j) { fids = sym c.clear.ensures j; waiting = sym c.clear-2.ensures j; connections = sym c.clear-3.ensures j }) (g.O.Outside.state c.leave.new.outside))
