-- Steps of what a session is told.
use Rattle.std.specs.Prelude.{◌≤◌, List, All, length}
use Rattle.r9_event.specs.declared.event.own.Item.{Item}
use Rattle.r9_event.specs.declared.event.own.Item.TheVariants.{Sent, Noted}
use Rattle.law_strangers.specs.near.Near.{IsNearNote}

-- a message has a size, a kind and a tag, and a rectangle of which a note tells is near
abbrev pub IsSoundItem : Item → Type 0
IsSoundItem (Sent bytes mark) = 7 ≤ length bytes
IsSoundItem (Noted n) = IsNearNote n

abbrev pub IsSoundStep : List Item → Type 0
IsSoundStep = All IsSoundItem
