-- A message whose data write stopped before its end, as an event of a world.
use Rattle.std.proofs.Common.{◌≡◌, ℕ, List, Option, None, Some, IfSome}
use Rattle.model_text.specs.text.Map.{lookup}
use Rattle.model_world.specs.Session.{Session}
use Rattle.model_world.specs.Desktop.{Desktop}
use Rattle.model_world.specs.Whole.{desktop_for}
use Rattle.model_world.specs.World.{World}
use Rattle.model_world.specs.Cut.{IsCutMessage, IsCutServed, wants_for}
use Rattle.r9_hall.specs.declared.hall.sessions.Own.{Own}
use Rattle.r9_hall.specs.hall.StateView.{IsServed}

cut_in : (world : World) (c : ℕ) (session : Session) (bytes : List ℕ) (mark short : Option ℕ) → lookup world.sessions c ≡ Some session
    → IfSome short (λ k. IsCutMessage (desktop_for c) (wants_for c) session world.desktop bytes mark k) → IfSome short (λ k. IsCutServed world c bytes mark k)
cut_in world c session bytes mark None lives cut = tt
cut_in world c session bytes mark (Some k) lives cut = record { session = session; lives = lives; cut = cut }

pub cut_served : (world : World) (c : ℕ) (found : Option Session) (bytes : List ℕ) (mark : Option ℕ) (own : Own) (after : List (ℕ × Session)) (rest : Desktop)
    → lookup world.sessions c ≡ found → IsServed c found world.sessions world.desktop bytes mark (Some own) after rest
    → IfSome own.short (λ k. IsCutServed world c bytes mark k)
cut_served world c None bytes mark own after rest lives served = absurd served
cut_served world c (Some session) bytes mark own after rest lives served =
    cut_in world c session bytes mark own.short lives served.2.cause
