use Rattle.std.proofs.Common.{sym, ap, subst}
use Rattle.r9_event.specs.declared.event.ask.Ask.TheVariants as ask
use Rattle.r9_event.specs.declared.event.ask.Answer.{Answer}
use Rattle.r9_lock.specs.declared.chronicle.Acted.{Acted}
use Rattle.r9_hall.specs.hall.Acts.{IsAct}
use Rattle.r9_hall.proofs.hall.Acting.{ended_act, made_counted}
use Rattle.r9_hall.proofs.hall.hall.Hall.end.Goals as goal

pub returns-clause-history : goal.returns-clause-history
returns-clause-history g c =
    subst (λ (a : Acted Answer). IsAct c.args.self.now (ask.End c.args.session) a c.event.new.self) (sym c.made.ensures) (ended_act c.args.self.now c.event.new.self c.args.session c.in-Ok.did c.in-Ok.ensures.made)

pub returns-clause-pixels : goal.returns-clause-pixels
returns-clause-pixels g c =
    made_counted c.args.self.now c.event.new.self _ c.in-Ok.did c.made.result _ _ (ap (λ (a : Acted Answer). a.entered) c.made.ensures) c.in-Ok.ensures.made c.requires.whole c.in-Ok.ensures.pixels
