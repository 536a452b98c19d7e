use Rattle.std.proofs.Common.{sym, subst}
use Rattle.r9_event.specs.declared.event.ask.Ask.{Ask}
use Rattle.r9_hall.specs.hall.Acts.{IsAct}
use Rattle.r9_hall.proofs.hall.hall.Hall.act.Goals as goal

pub returns-in-Msg-clause-history : goal.returns-in-Msg-clause-history
returns-in-Msg-clause-history g c = subst (λ (asked : Ask). IsAct c.args.self.now asked c.hear.result c.hear.new.self) (sym c.in-Msg.is) c.hear.ensures.history
