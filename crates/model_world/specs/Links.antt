-- The draw device's connections are those of the sessions.
use Rattle.std.specs.Prelude.{◌≡◌, ◌<◌, ◌≤◌, ◌+◌, ◌^◌, ◌==◌, ℕ, Bool, false, is_some, List, [], ◌∷◌, Option, Some, None}
use Rattle.std.specs.List.{list_any}
use Rattle.std.specs.Map.{keys_of}
use Rattle.r9_event.specs.declared.event.event.Event.{Event}
use Rattle.r9_event.specs.declared.event.event.Event.TheVariants.{Begin}
use Rattle.model_text.specs.text.Map.{lookup}
use Rattle.model_text.specs.map.Ascending.{Ascend}
use Rattle.model_draw.specs.draw.World as draw
use Rattle.model_world.specs.Session.{Session}
use Rattle.model_world.specs.Whole.{client}

-- none of the numbers is above
abbrev pub AreWithin : ℕ → List ℕ → Type 0
AreWithin most [] = Unit {0}
AreWithin most (n ∷ ns) = (n ≤ most) × AreWithin most ns

-- the device has a connection of this number
abbrev pub is_connected : draw.World → ℕ → Bool
is_connected device k = is_some (lookup device.clients k)

abbrev pub is_among : List ℕ → ℕ → Bool
is_among ns n = list_any (λ m. m == n) ns

-- A session's connections are numbered from 1 to how many it made, and stand in ascending order.
pub record AreCounted (made : ℕ) (connections : List ℕ) : Type 0 where
  pub few : made < 2 ^ 26
  pub within : AreWithin made connections
  pub ascending : Ascend connections

-- the device has the connections of a session, and of that session no others
pub record IsLinked (c made : ℕ) (connections : List ℕ) (device : draw.World) : Type 0 where
  pub counted : AreCounted made connections
  pub ordered : Ascend (keys_of device.clients)
  pub linked : (n : ℕ) → n < 2 ^ 26 → is_connected device (client c n) ≡ is_among connections n

-- no other session's connection is touched
abbrev pub KeepsOthers : ℕ → (before after : draw.World) → Type 0
KeepsOthers c before after = (k : ℕ) → ((n : ℕ) → n < 2 ^ 26 → k ≡ client c n → ⊥) → is_connected after k ≡ is_connected before k

-- what a session has; a session that does not live has no connection
abbrev pub has_connection : Option Session → ℕ → Bool
has_connection None n = false
has_connection (Some session) n = is_among session.connections n

-- the same of all sessions
pub record AreLinked (device : draw.World) (sessions : List (ℕ × Session)) : Type 0 where
  pub counted : (c : ℕ) (session : Session) → lookup sessions c ≡ Some session → AreCounted session.made session.connections
  pub ordered : Ascend (keys_of device.clients)
  pub ascending : Ascend (keys_of sessions)
  pub linked : (c n : ℕ) → n < 2 ^ 26 → is_connected device (client c n) ≡ has_connection (lookup sessions c) n

-- no session lives that has not begun
abbrev pub AreKnown : (begun : ℕ) → List (ℕ × Session) → Type 0
AreKnown begun sessions = (c : ℕ) → begun < c → lookup sessions c ≡ None

-- how many sessions have begun after an event
abbrev pub begun_after : ℕ → Event → ℕ
begun_after begun (Begin c) = c
begun_after begun _ = begun

-- the session that begins is the next one
abbrev pub IsNext : (begun : ℕ) → Event → Type 0
IsNext begun (Begin c) = c ≡ begun + 1
IsNext begun _ = Unit {0}
