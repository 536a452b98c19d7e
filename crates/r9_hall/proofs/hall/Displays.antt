-- The display in what a history led to.
use Rattle.std.proofs.Common.{◌≡◌, ◌+◌, ◌-◌, ℕ, true, List, Option, None, ap, ◌∙◌}
use Rattle.std.specs.Prelude.{is_some, not}
use Rattle.r9_event.specs.declared.event.event.Event.{Event}
use Rattle.r9_event.specs.declared.event.event.Opening.{Opening}
use Rattle.model_history.specs.event.Legal.{IsLegal}
use Rattle.model_history.specs.event.Journal.{events_of}
use Rattle.model_forest.specs.World.{parent_of}
use Rattle.model_world.specs.Replay.{replay}
use Rattle.model_world.specs.World.{World}
use Rattle.r9_desktop.specs.Marks.{Display, IsMarked, IsOf}
use Rattle.r9_hall.specs.hall.HallView.{HallValue, OfHistories}
use Rattle.r9_hall.specs.hall.WorldView.{display_in, world_in}
use Rattle.r9_hall.proofs.hall.Worlds.{marks_counted}

-- It stands nowhere, so that what was written is marked.
pub marked_in : (h : HallValue) (last : Display) (pixels before after : ℕ) → IsOf (world_in h.world).desktop.device (display_in h.world)
    → ((opening : Opening) (events : List Event) → IsLegal events → parent_of (replay opening events).desktop.device.images 0 ≡ None)
    → after ≡ before + pixels → ((display_in h.world).nowhere ≡ true → IsMarked (display_in h.world) last pixels) → OfHistories h (λ _. IsMarked (display_in h.world) last (after - before))
marked_in h last pixels before after shows law counted is whole history stands =
    marks_counted (display_in h.world) last pixels before after counted is
    (shows.nowhere
    ∙ ap (λ (w : World). not (is_some (parent_of w.desktop.device.images 0))) (stands.led whole).world
    ∙ ap (λ (o : Option ℕ). not (is_some o)) (law h.opening (events_of history) stands.legal))
