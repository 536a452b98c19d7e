use Rattle.std.proofs.Common.{sym, ap, subst, ◌∙◌}
use Rattle.r9_event.specs.declared.event.ask.Ask.TheVariants as ask
use Rattle.r9_event.specs.declared.event.ask.Answer.{Answer}
use Rattle.r9_lock.specs.declared.chronicle.Acted.{Acted}
use Rattle.r9_hall.specs.hall.Acts.{IsAct}
use Rattle.r9_hall.proofs.hall.Acting.{gave_up_act, gave_up_counted, heard_act, made_counted}
use Rattle.r9_hall.proofs.hall.hall.Hall.hear.Goals as goal

pub returns-clause-history : goal.returns-clause-history
returns-clause-history g c =
    subst (λ (a : Acted Answer). IsAct c.args.self.now (ask.Msg c.args.session c.args.bytes) a c.event.new.self) (sym c.made.ensures)
    (heard_act c.args.self.now c.event.new.self c.args.session c.args.bytes c.in-Ok.did c.heard.result c.in-Ok.ensures.made c.event.ensures.opening c.requires.whole (c.in-Ok.ensures.whole ∙ c.requires.whole) c.heard.ensures)

pub returns-in_default-clause-history : goal.returns-in_default-clause-history
returns-in_default-clause-history g c =
    gave_up_act c.args.self.now c.event.new.self c.give_up.new.self (ask.Msg c.args.session c.args.bytes) c.give_up.result (λ before after given. given) c.give_up.ensures.answer c.requires.going
    c.in_default.ensures.err c.give_up.ensures.entered

pub returns-in_default-clause-pixels : goal.returns-in_default-clause-pixels
returns-in_default-clause-pixels g c =
    gave_up_counted c.args.self.now c.event.new.self c.give_up.new.self c.give_up.result _ _ _ c.in_default.ensures.err c.give_up.ensures.entered c.in_default.ensures.uncounted c.give_up.ensures.silent

pub returns-clause-pixels : goal.returns-clause-pixels
returns-clause-pixels g c =
    made_counted c.args.self.now c.event.new.self _ c.in-Ok.did c.made.result _ _ (ap (λ (a : Acted Answer). a.entered) c.made.ensures) c.in-Ok.ensures.made c.requires.whole c.in-Ok.ensures.pixels
