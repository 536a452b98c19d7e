use Rattle.std.proofs.Common.{◌≡◌, ℕ, Option, Some, option_map, sym, ap, ◌∙◌}
use Rattle.std.specs.Option.{option_copied}
use Rattle.model_text.specs.text.Map.{lookup}
use Rattle.model_text.proofs.map.Keys.{lookup_at}
use Rattle.model_world.specs.Session.{Session}
use Rattle.r9_hall.specs.hall.WorldView.{WorldValue, world_in}
use Rattle.r9_hall.proofs.hall.world.World.session_size.Goals as goal

pub returns-in-Some : goal.returns-in-Some
returns-in-Some c =
    let sessions = c.self.inside.sessions.live.entries in
    let at : lookup sessions c.args.session ≡ Some c.in-Some.found.now = sym (lookup_at sessions c.args.session) ∙ sym c.get.ensures.value ∙ ap option_copied c.in-Some.is in
    let size : Option Session → Option ℕ = λ found. option_map (λ (s : Session). s.msize) found in
    ap (λ (n : ℕ). Some n) c.msize.ensures ∙ ap size (sym at) ∙ ap (λ (w : WorldValue). size (lookup (world_in w).sessions c.args.session)) c.self.view_is
