-- What holds of all histories, and of what is put out of them.
use Rattle.std.specs.Prelude.{◌≡◌, ◌<◌, ◌^◌, ◌++◌, ℕ, Bool, true, false, List, Option, Some, Ok}
use Rattle.model_draw.specs.draw.Orders.{is_side}
use Rattle.model_history.specs.event.Legal.{IsLegal}
use Rattle.model_client.specs.mirror.Frames.{viewer}
use Rattle.model_client.specs.mirror.Picture.{Picture}
use Rattle.model_mirror.specs.Frame.{IsEntry, IsFrame}
use Rattle.model_mirror.specs.Pictures.{IsLawful, IsSameWhereUnsent}
use Rattle.law_devices.specs.sides.Display.{HasDisplay, HasPaid}
use Rattle.model_world.specs.Replay.{replay, step}
use Rattle.r9_event.specs.declared.event.event.Event.{Event}
use Rattle.r9_event.specs.declared.event.event.Opening.{Opening}

-- Each history has a display, an event that gives it another size costs its pixels at least, a frame of all cells with the size shows its
-- picture, and an entry what has changed.
pub record AreLaws : Type 0 where
  pub display : (opening : Opening) (events : List Event) → is_side opening.width ≡ true → is_side opening.height ≡ true → IsLegal events → HasDisplay opening.chan (replay opening events).desktop.device
  pub paid : (opening : Opening) (events : List Event) (event : Event) → IsLegal events → HasPaid (replay opening events).desktop.device (step (replay opening events) event).world.desktop.device (step (replay opening events) event).cost
  pub sized : (chan number : ℕ) (before : Option Picture) (picture : Picture) (frames frame : List ℕ) → IsLawful picture → number < 10 ^ 18 → viewer chan frames ≡ Ok before
      → IsFrame chan number true picture (λ column row. true) frame → viewer chan (frames ++ frame) ≡ Ok (Some picture)
  pub changed : (chan number : ℕ) (before after : Picture) (sent : (column row : ℕ) → Bool) (frames entry : List ℕ) → IsLawful after → IsSameWhereUnsent sent before after
      → 0 < number → number < 10 ^ 18 → viewer chan frames ≡ Ok (Some before) → IsEntry chan number false after sent entry → viewer chan (frames ++ entry) ≡ Ok (Some after)
