use Rattle.std.proofs.Common.{sym, ap, subst}
use Rattle.r9_event.specs.declared.event.ask.Ask.TheVariants as ask
use Rattle.r9_event.specs.declared.event.ask.Answer.{Answer}
use Rattle.r9_lock.specs.declared.chronicle.Acted.{Acted}
use Rattle.r9_hall.specs.hall.Acts.{IsAct}
use Rattle.r9_hall.proofs.hall.Acting.{gave_up_act, gave_up_counted, made_counted, none_waits, nothing_act, over_act, refused, some_wait, taken_act, unbegun_act}
use Rattle.r9_hall.proofs.hall.hall.Hall.look.Goals as goal

pub returns-then-not-can-clause-history : goal.returns-then-not-can-clause-history
returns-then-not-can-clause-history g c =
    subst (λ (a : Acted Answer). IsAct c.args.self.now (ask.Look c.args.session) a c.args.self.now) (sym c.told.ensures)
    (unbegun_act c.args.self.now c.args.session c.requires.going c.requires.whole (refused c.can.result c.if-not-can.true c.can.ensures.1))

pub returns-then-is_done-clause-history : goal.returns-then-is_done-clause-history
returns-then-is_done-clause-history g c =
    subst (λ (a : Acted Answer). IsAct c.args.self.now (ask.Look c.args.session) a c.args.self.now) (sym c.told-then-is_done.ensures)
    (over_act c.args.self.now c.args.session c.outbox.result.now c.requires.going c.requires.whole (c.can.ensures.0 c.if-not-can.false) c.outbox.ensures
    (none_waits c.outbox.result.now c.is_empty.result c.is_empty.ensures c.if-is_empty.true) (c.is_done.ensures.0 c.if-is_done.true))

pub returns-then-is_empty-clause-history : goal.returns-then-is_empty-clause-history
returns-then-is_empty-clause-history g c =
    subst (λ (a : Acted Answer). IsAct c.args.self.now (ask.Look c.args.session) a c.args.self.now) (sym c.told-then-is_empty.ensures)
    (nothing_act c.args.self.now c.args.session c.outbox.result.now c.requires.going c.requires.whole c.outbox.ensures
    (none_waits c.outbox.result.now c.is_empty.result c.is_empty.ensures c.if-is_empty.true) (refused c.is_done.result c.if-is_done.false c.is_done.ensures.1))

pub returns-in_default-clause-history : goal.returns-in_default-clause-history
returns-in_default-clause-history g c =
    gave_up_act c.args.self.now c.make.new.self c.give_up.new.self (ask.Look c.args.session) c.give_up.result (λ before after given. given) c.give_up.ensures.answer c.requires.going
    c.in_default.ensures.err c.give_up.ensures.entered

pub returns-clause-history : goal.returns-clause-history
returns-clause-history g c =
    subst (λ (a : Acted Answer). IsAct c.args.self.now (ask.Look c.args.session) a c.make.new.self) (sym c.made.ensures)
    (taken_act c.args.self.now c.make.new.self c.args.session c.in-Ok.given.did c.in-Ok.given.taken c.outbox.result.now c.in-Ok.ensures.made c.requires.whole c.in-Ok.ensures.taken c.outbox.ensures
    (some_wait c.outbox.result.now c.is_empty.result c.is_empty.ensures c.if-is_empty.false))

pub returns-in_default-clause-pixels : goal.returns-in_default-clause-pixels
returns-in_default-clause-pixels g c =
    gave_up_counted c.args.self.now c.make.new.self c.give_up.new.self c.give_up.result _ _ _ c.in_default.ensures.err c.give_up.ensures.entered c.in_default.ensures.uncounted c.give_up.ensures.silent

pub returns-clause-pixels : goal.returns-clause-pixels
returns-clause-pixels g c =
    made_counted c.args.self.now c.make.new.self _ c.in-Ok.given.did c.made.result _ _ (ap (λ (a : Acted Answer). a.entered) c.made.ensures) c.in-Ok.ensures.made c.requires.whole c.in-Ok.ensures.pixels
