use Rattle.std.proofs.Common.{◌≡◌, ◌++◌, List, length}
use Rattle.r9_event.specs.declared.event.event.Event.{Event}
use Rattle.model_history.specs.records.Record.{IsRecord}
use Rattle.r9_embed.specs.Events.{AreMade}
use Rattle.r9_embed.proofs.embedded.Embedded.load.Given as goal

-- the events that are no more left were made
abbrev pub invariant-events : goal.invariant-events
invariant-events l =
    (done : List Event) × IsRecord l.fn.text (done ++ l.left) × AreMade l.initial.self.hall done l.self.hall
    × (l.self.hall.opening ≡ l.initial.self.hall.opening) × (l.self.hall.first ≡ l.initial.self.hall.first)

abbrev pub decreases-events : goal.decreases-events
decreases-events l = length l.left
