-- What a desk writes for each event of the mouse, and the history in which it does (rio(4), draw(3)).
use Rattle.std.specs.Prelude.{List, [], ◌∷◌, ◌++◌, map}
use Rattle.std.specs.List.{flat_map}
use Rattle.r9_geom.specs.Geometry.{natural}
use Rattle.r9_event.specs.declared.event.event.Event.{Event}
use Rattle.model_files.specs.wire.Message.{T}
use Rattle.r9_event.specs.declared.event.event.Event.TheVariants.{Begin}
use Rattle.model_files.specs.declared.mouse.Mouse.{Mouse}
use Rattle.model_client.specs.declared.desk.Mode.{Mode}
use Rattle.model_client.specs.declared.desk.Mode.TheVariants.{Drag, Drain, Idle, Menu, Pick, Sweep, Sweeping}
use Rattle.model_client.specs.desk.Table.{Desk, start}
use Rattle.model_client.specs.desk.Pilot.{after, written}
use Rattle.model_clients.specs.client.Saying.{says}
use Rattle.law_desk.specs.bands.Bands.{bands}
use Rattle.model_clients.specs.piloted.History.{Write, opening, writes}
use Rattle.law_desk.specs.steered.Steered.{write_of}

-- the draw messages that show the bands of a menu, where the mode is one
abbrev pub bands_in : Mode → List Write
bands_in Idle = []
bands_in (Menu at window) = (4, bands window (natural at.x) (natural at.y)) ∷ []
bands_in (Pick item) = []
bands_in (Drain sweep) = []
bands_in (Sweep window) = []
bands_in (Sweeping window from) = []
bands_in (Drag pane from) = []

-- they are written once, when the menu comes
abbrev pub bands_after : (before after : Mode) → List Write
bands_after Idle after = bands_in after
bands_after (Menu at window) after = []
bands_after (Pick item) after = []
bands_after (Drain sweep) after = []
bands_after (Sweep window) after = []
bands_after (Sweeping window from) after = []
bands_after (Drag pane from) after = []

-- what is written for an event: its text, and the bands of a menu that it opens
unfoldable pub writes_for : Desk → Mouse → List Write
writes_for d e = map write_of (written d e) ++ bands_after d.mode (after d e).mode

-- what is written for each of a list of events
abbrev pub writes_from : Desk → List Mouse → List (List Write)
writes_from d [] = []
writes_from d (e ∷ events) = writes_for d e ∷ writes_from (after d e) events

-- what a desk says: it opens its files and makes the colours of the bands, and then writes for each event
abbrev pub desk_messages : List Mouse → List T
desk_messages events = opening ++ map writes (flat_map (λ some. some) (writes_from start events))

-- the history of a desk, whose session begins and says so
unfoldable pub desk_history : List Mouse → List Event
desk_history events = Begin 1 ∷ map says (desk_messages events)
