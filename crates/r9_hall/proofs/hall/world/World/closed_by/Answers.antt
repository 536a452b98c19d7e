use Rattle.std.proofs.Common.{◌≡◌, ℕ, Option, Some, None, sym, ap, ◌∙◌}
use Rattle.std.specs.Option.{option_copied, option_map_or}
use Rattle.model_text.specs.text.Map.{lookup}
use Rattle.model_text.proofs.map.Keys.{lookup_at}
use Rattle.model_world.specs.Session.{Session}
use Rattle.r9_hall.specs.hall.WorldView.{WorldValue, world_in}
use Rattle.r9_hall.proofs.hall.world.World.closed_by.Goals as goal

pub returns-in-Some : goal.returns-in-Some
returns-in-Some c =
    let sessions = c.self.inside.sessions.live.entries in
    let at : lookup sessions c.args.session ≡ Some c.in-Some.found.now = sym (lookup_at sessions c.args.session) ∙ sym c.get.ensures.value ∙ ap option_copied c.in-Some.is in
    let tag : Option Session → Option ℕ = λ found. option_map_or (λ (s : Session). s.closed) found None in
    c.closed.ensures ∙ ap tag (sym at) ∙ ap (λ (w : WorldValue). tag (lookup (world_in w).sessions c.args.session)) c.self.view_is
