-- Each session that is alone with its window is isolated.
use Rattle.std.proofs.Common.{ℕ, zero, suc, List, arith}
use Rattle.r9_event.specs.declared.event.event.Event.{Event}
use Rattle.r9_event.specs.declared.event.event.Opening.{Opening}
use Rattle.model_alone.specs.alone.Isolated.{IsIsolated}
use Rattle.law_devices.specs.assembled.Assembled.{AreAlike}
use Rattle.law_devices.proofs.lawful.Laws.{devices_alike}
use Rattle.law_isolation.specs.names.Named.{Named}
use Rattle.law_isolation.proofs.names.Names.{names_are_free}
use Rattle.law_isolation.proofs.isolated.Following.{isolated}
use Rattle.law_isolation.proofs.isolated.Uncounted.{none_isolated}

pub all_isolated : (opening : Opening) (c : ℕ) (events : List Event) → IsIsolated opening events c
all_isolated opening zero events = none_isolated opening events
all_isolated opening (suc c) events = isolated (suc c) (omega arith) (AreAlike (suc c)) Named (devices_alike (suc c) (omega arith)) names_are_free opening events
