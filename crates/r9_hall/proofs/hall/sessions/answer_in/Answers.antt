use Rattle.std.proofs.Common.{◌≡◌, Option, Some, sym, ap, subst, ◌∙◌}
use Rattle.std.specs.Option.{option_copied_mut}
use Rattle.model_text.specs.text.Map.{lookup, with}
use Rattle.model_text.proofs.map.Keys.{lookup_at, with-written}
use Rattle.model_world.specs.Session.{Session}
use Rattle.model_world.proofs.Steps.{linked_of}
use Rattle.r9_desktop.specs.World.{desktop_of}
use Rattle.r9_hall.specs.hall.StateView.{IsServed}
use Rattle.r9_hall.specs.hall.Watching.{IsSeenOf}
use Rattle.r9_hall.proofs.hall.States.{served_linked}
use Rattle.r9_hall.proofs.hall.sessions.answer_in.Goals as goal

pub answer-requires-clause-linked : goal.answer-requires-clause-linked
answer-requires-clause-linked c =
    let at : lookup c.args.sessions.now.entries c.args.session ≡ Some c.in-Some.found.now = sym (lookup_at c.args.sessions.now.entries c.args.session) ∙ sym c.get_mut.ensures.value ∙ ap option_copied_mut c.in-Some.is in
    linked_of (desktop_of c.args.desktop.now).device c.args.sessions.now.entries c.args.session c.in-Some.found.now c.requires.linked at

pub returns-in_ok-own-in-Some : goal.returns-in_ok-own-in-Some
returns-in_ok-own-in-Some c =
    let before = c.args.sessions.now.entries in
    let left = desktop_of c.answer.new.desktop in
    let after = (c.get_mut.follows.lender c.answer.new.found).entries in
    let at : lookup before c.args.session ≡ Some c.in-Some.found.now = sym (lookup_at before c.args.session) ∙ sym c.get_mut.ensures.value ∙ ap option_copied_mut c.in-Some.is in
    let written : after ≡ with before c.args.session c.answer.new.found = with-written before _ c.args.session c.answer.new.found (c.get_mut.follows.holds c.answer.new.found).0 in
    let served : IsServed c.args.session (Some c.in-Some.found.now) before (desktop_of c.args.desktop.now) c.args.bytes.now c.args.mark (Some c.in_ok-own-in-Some.own) after left =
    (c.answer.new.found, written, c.in_ok-own-in-Some.ensures.answered) in
    record {
      seen = λ watches. subst (λ (found : Option Session). IsSeenOf c.args.session found (desktop_of c.args.desktop.now) c.args.bytes.now c.args.mark (Some c.in_ok-own-in-Some.own) c.answer.new.sight) (sym at) (c.in_ok-own-in-Some.ensures.seen watches);
      served = subst (λ (found : Option Session). IsServed c.args.session found before (desktop_of c.args.desktop.now) c.args.bytes.now c.args.mark (Some c.in_ok-own-in-Some.own) after left) (sym at) served;
      began = c.answer.ensures.began;
      linked = served_linked c.args.session before (desktop_of c.args.desktop.now) (Some c.in-Some.found.now) c.args.bytes.now c.args.mark (Some c.in_ok-own-in-Some.own) after left c.requires.linked at served;
    }
