use Rattle.std.proofs.Common.{◌≡◌, true, Option, Some, sym, ap, subst, ◌∙◌}
use Rattle.std.specs.Option.{option_copied}
use Rattle.model_text.specs.text.Map.{lookup}
use Rattle.model_text.proofs.map.Keys.{lookup_at}
use Rattle.model_world.specs.Session.{Session}
use Rattle.model_world.proofs.Steps.{linked_of}
use Rattle.r9_desktop.specs.World.{desktop_of}
use Rattle.r9_hall.specs.hall.StateView.{IsLeft}
use Rattle.r9_hall.proofs.hall.sessions.leave.Goals as goal

pub leave-requires : goal.leave-requires
leave-requires c =
    let at : lookup c.args.sessions.now.entries c.args.session ≡ Some c.in-Some.found.now = sym (lookup_at c.args.sessions.now.entries c.args.session) ∙ sym c.get.ensures.value ∙ ap option_copied c.in-Some.is in
    record { linked = linked_of (desktop_of c.args.desktop.now).device c.args.sessions.now.entries c.args.session c.in-Some.found.now c.requires at }

pub returns-in_ok-leave-in-Some-clause-left : goal.returns-in_ok-leave-in-Some-clause-left
returns-in_ok-leave-in-Some-clause-left c =
    let at : lookup c.args.sessions.now.entries c.args.session ≡ Some c.in-Some.found.now = sym (lookup_at c.args.sessions.now.entries c.args.session) ∙ sym c.get.ensures.value ∙ ap option_copied c.in-Some.is in
    let P : Option Session → Type 0 = λ found. IsLeft c.args.session found (desktop_of c.args.desktop.now) true (desktop_of c.leave.new.desktop) in
    subst P (sym at) c.in_ok-leave-in-Some.ensures.outside
