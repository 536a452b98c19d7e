-- The watch of a session in a history that ran.
use Rattle.std.specs.Prelude.{◌≡◌, ℕ, List, None}
use Rattle.r9_event.specs.declared.event.event.Event.{Event}
use Rattle.r9_event.specs.declared.event.event.Opening.{Opening}
use Rattle.model_alone.specs.alone.Own.{not_alone}
use Rattle.r9_isol.specs.watch.History.{watched_in}
use Rattle.r9_isol.specs.watch.Watching.{Watching}

-- The session is alone with its window in the history, of which this is the watch.
pub record IsWatchedIn (opening : Opening) (c : ℕ) (events : List Event) (watch : Watching) : Type 0 where
  pub watch_is : watch ≡ watched_in opening c events
  pub alone : not_alone opening c events ≡ None
