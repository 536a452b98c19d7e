use Rattle.std.proofs.Common.{◌≡◌, Some, sym, ap, ◌∙◌}
use Rattle.std.specs.Option.{option_copied_mut}
use Rattle.model_text.specs.text.Map.{lookup, with}
use Rattle.model_text.proofs.map.Keys.{lookup_at, with-written}
use Rattle.model_world.proofs.Steps.{linked_of}
use Rattle.r9_desktop.specs.World.{desktop_of}
use Rattle.r9_hall.proofs.hall.Waits.{at_next}
use Rattle.r9_hall.proofs.hall.settling.answer_at.Goals as goal

pub answer_late-requires : goal.answer_late-requires
answer_late-requires c =
    let at : lookup c.args.sessions.now.entries c.args.session ≡ Some c.in-Some.found.now = sym (lookup_at c.args.sessions.now.entries c.args.session) ∙ sym c.get_mut.ensures.value ∙ ap option_copied_mut c.in-Some.is in
    linked_of (desktop_of c.args.desktop.now).device c.args.sessions.now.entries c.args.session c.in-Some.found.now c.requires at

pub returns-in_ok-given-in-Some-clause-next : goal.returns-in_ok-given-in-Some-clause-next
returns-in_ok-given-in-Some-clause-next c = λ opening.
    let before = c.args.sessions.now.entries in
    let at : lookup before c.args.session ≡ Some c.in-Some.found.now = sym (lookup_at before c.args.session) ∙ sym c.get_mut.ensures.value ∙ ap option_copied_mut c.in-Some.is in
    let written : (c.get_mut.follows.lender c.answer_late.new.found).entries ≡ with before c.args.session c.answer_late.new.found = with-written before _ c.args.session c.answer_late.new.found (c.get_mut.follows.holds c.answer_late.new.found).0 in
    at_next opening before _ _ _ c.args.session c.in-Some.found.now c.answer_late.new.found c.in_ok-given-in-Some.given at written c.in_ok-given-in-Some.ensures.late
