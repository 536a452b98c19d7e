use Rattle.std.proofs.Common.{◌≡◌, ◌+◌, ◌^◌, ◌<◌, false, sym, ap, subst, ◌∙◌, arith}
use Rattle.r9_event.specs.declared.event.ask.Ask.TheVariants as ask
use Rattle.r9_event.specs.declared.event.ask.Answer.{Answer}
use Rattle.r9_lock.specs.declared.chronicle.Acted.{Acted}
use Rattle.r9_hall.specs.hall.Acts.{IsAct}
use Rattle.r9_hall.specs.hall.HallView.{HallValue}
use Rattle.r9_hall.proofs.hall.Acting.{all_live_act, began_act, gave_up_act, gave_up_counted, made_counted, refused}
use Rattle.r9_hall.proofs.hall.hall.Hall.begin.Goals as goal

pub returns-then-not-can-clause-history : goal.returns-then-not-can-clause-history
returns-then-not-can-clause-history g c =
    let h = c.args.self.now in
    let whole : c.self.inside.broken ≡ false = ap (λ (v : HallValue). v.broken) c.self.view_is ∙ c.requires.whole in
    let begun : c.begun.result ≡ h.roll.begun = c.begun.ensures ∙ c.self.invariant.begun whole ∙ ap (λ (v : HallValue). v.roll.begun) c.self.view_is in
    let session : c.in-Some.session ≡ h.roll.begun + 1 = omega (arith, begun, c.in-Some.ensures.1) in
    let fits : c.in-Some.session < 2 ^ 32 = omega (arith, c.in-Some.ensures.0, c.in-Some.ensures.1) in
    subst (λ (a : Acted Answer). IsAct h ask.Begin a h) (sym c.told-then-not-can.ensures)
    (all_live_act h c.in-Some.session c.requires.going c.requires.whole session fits (refused c.can.result c.if-not-can.true c.can.ensures.1))

pub returns-in_default-event-clause-history : goal.returns-in_default-event-clause-history
returns-in_default-event-clause-history g c =
    gave_up_act c.args.self.now c.event.new.self c.give_up.new.self ask.Begin c.give_up.result (λ before after given. given) c.give_up.ensures.answer c.requires.going
    c.in_default-event.ensures.err c.give_up.ensures.entered

pub returns-in_default-event-clause-pixels : goal.returns-in_default-event-clause-pixels
returns-in_default-event-clause-pixels g c =
    gave_up_counted c.args.self.now c.event.new.self c.give_up.new.self c.give_up.result _ _ _ c.in_default-event.ensures.err c.give_up.ensures.entered c.in_default-event.ensures.uncounted c.give_up.ensures.silent

pub returns-clause-pixels : goal.returns-clause-pixels
returns-clause-pixels g c =
    made_counted c.args.self.now c.event.new.self _ _ c.made.result _ _ (ap (λ (a : Acted Answer). a.entered) c.made.ensures) c.in-Ok.ensures.made c.requires.whole c.in-Ok.ensures.pixels

pub returns-clause-history : goal.returns-clause-history
returns-clause-history g c =
    subst (λ (a : Acted Answer). IsAct c.args.self.now ask.Begin a c.event.new.self) (sym c.made.ensures) (began_act c.args.self.now c.event.new.self c.in-Some.session _ c.in-Ok.ensures.made)
