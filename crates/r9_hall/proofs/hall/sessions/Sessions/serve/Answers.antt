use Rattle.std.proofs.Common.{ℕ, List, Option, refl, sym, subst, ◌∙◌, ap}
use Rattle.model_text.specs.text.Map.{lookup}
use Rattle.model_world.specs.Session.{Session}
use Rattle.model_world.specs.Sleeping.{stirred}
use Rattle.r9_desktop.specs.World.{desktop_of}
use Rattle.r9_hall.specs.hall.Settling.{AreWoken}
use Rattle.r9_hall.specs.hall.StateView.{IsServed, world_with}
use Rattle.r9_hall.specs.hall.Watching.{IsSeenOf}
use Rattle.r9_hall.proofs.hall.Cuts.{cut_served}
use Rattle.r9_hall.proofs.hall.States.{served_asked}
use Rattle.r9_hall.proofs.hall.Watched.{served_made, served_used, unserved_used}
use Rattle.r9_hall.specs.declared.hall.sessions.Made.{Made}
use Rattle.r9_hall.specs.declared.hall.sessions.Own.{Own}
use Rattle.r9_hall.specs.declared.hall.sessions.Sessions.{Sessions}
use Rattle.r9_event.specs.declared.event.event.Event.TheVariants.{Msg}
use Rattle.model_alone.specs.alone.Uses.{event_used}
use Rattle.model_world.specs.Replay.{marked}
use Rattle.r9_hall.proofs.hall.sessions.Sessions.serve.Goals as goal

pub settle-requires-clause-asked : goal.settle-requires-clause-asked
settle-requires-clause-asked c =
    let before : List (ℕ × Session) = c.args.self.now.live.entries in
    let after : List (ℕ × Session) = c.answer_in.new.sessions.entries in
    let desktop = desktop_of c.args.self.now.desktop in
    let left = desktop_of c.answer_in.new.desktop in
    served_asked c.args.session before desktop (lookup before c.args.session) c.args.bytes.now c.args.mark c.in-Some.own after left c.deref.result.now c.requires.linked c.requires.quiet refl
    (subst (λ (o : Option Own). IsServed c.args.session (lookup before c.args.session) before desktop c.args.bytes.now c.args.mark o after left) c.in-Some.is c.in_ok-own.ensures.served)
    c.in_ok-own.ensures.linked (subst (λ (l : List ℕ). AreWoken c.args.session (stirred left.notes c.in-Some.own.wrote) after l) (sym c.deref.ensures.value) c.in_ok-asked.ensures)

pub returns-clause-short : goal.returns-clause-short
returns-clause-short c = λ opening.
    cut_served (world_with opening c.args.self.now) c.args.session _ c.args.bytes.now c.args.mark c.in-Some.own _ _ refl
    (subst (λ (o : Option Own). IsServed c.args.session (lookup c.args.self.now.live.entries c.args.session) c.args.self.now.live.entries (desktop_of c.args.self.now.desktop) c.args.bytes.now c.args.mark o c.answer_in.new.sessions.entries (desktop_of c.answer_in.new.desktop)) c.in-Some.is c.in_ok-own.ensures.served)

pub returns-in_default-clause-uses : goal.returns-in_default-clause-uses
returns-in_default-clause-uses c = λ watches opening.
    let before : Sessions = c.args.self.now in
    let after : Sessions = record { live = c.answer_in.new.sessions; desktop = c.answer_in.new.desktop } in
    let bytes = c.args.bytes.now in
    let found = lookup before.live.entries c.args.session in
    ap (λ (m : Made). m.uses) c.silent.ensures
    ∙ unserved_used opening before after c.args.session found bytes c.args.mark refl
    (subst (λ (o : Option Own). IsServed c.args.session found before.live.entries (desktop_of before.desktop) bytes c.args.mark o after.live.entries (desktop_of after.desktop)) c.in_default.is c.in_ok-own.ensures.served)
    ∙ ap (λ (m : Made). event_used (world_with opening before) (world_with opening after) (marked (Msg c.args.session bytes c.args.mark) m.short)) (sym c.silent.ensures)

pub returns-clause-uses : goal.returns-clause-uses
returns-clause-uses c = λ watches opening.
    let before : List (ℕ × Session) = c.args.self.now.live.entries in
    let after : List (ℕ × Session) = c.answer_in.new.sessions.entries in
    let desktop = desktop_of c.args.self.now.desktop in
    let left = desktop_of c.answer_in.new.desktop in
    served_used (world_with opening c.args.self.now) (world_with opening c.settle.new.self) c.args.session (lookup before c.args.session) c.args.bytes.now c.args.mark c.in-Some.own c.answer_in.new.sight after left c.in_ok-uses.uses refl
    (subst (λ (o : Option Own). IsServed c.args.session (lookup before c.args.session) before desktop c.args.bytes.now c.args.mark o after left) c.in-Some.is c.in_ok-own.ensures.served)
    (subst (λ (o : Option Own). IsSeenOf c.args.session (lookup before c.args.session) desktop c.args.bytes.now c.args.mark o c.answer_in.new.sight) c.in-Some.is (c.in_ok-own.ensures.seen watches))
    c.in_ok-uses.ensures

pub returns-clause-made : goal.returns-clause-made
returns-clause-made c = λ opening.
    let before : Sessions = c.args.self.now in
    let mid : Sessions = record { live = c.answer_in.new.sessions; desktop = c.answer_in.new.desktop } in
    served_made opening before mid c.settle.new.self c.args.session (lookup before.live.entries c.args.session) c.args.bytes.now c.args.mark c.in-Some.own c.settle.new.replies c.in_ok-uses.uses refl
    (subst (λ (o : Option Own). IsServed c.args.session (lookup before.live.entries c.args.session) before.live.entries (desktop_of before.desktop) c.args.bytes.now c.args.mark o mid.live.entries (desktop_of mid.desktop)) c.in-Some.is c.in_ok-own.ensures.served)
    (c.in_ok-settle.ensures.settled opening)
