-- Doors in memory and of the network as the trait has them.
use Rattle.std.specs.Prelude.{ℕ, List, Bool, true, false, Option, Some, None}
use Rattle.r9_outside.specs.outside.Door.{Accepted, Ended}
use Rattle.r9_outside.specs.declared.outside.doors.Done.{Done}

-- a session whose source had these bytes, with no fault counted
abbrev pub accepted_with : List ℕ → Accepted
accepted_with had = record { had = Some had; read_faults = 0; write_faults = 0 }

abbrev pub ended_of : {S O : Type 0} → Done S O → Ended S O
ended_of e = record { session = e.session; accepted = accepted_with e.had.items; input = e.input; output = e.output }

-- how many sessions are inside
abbrev pub one_of : {X : Type 0} → Option X → ℕ
one_of None = 0
one_of (Some x) = 1

-- who is inside at a door whose sources tell nothing
abbrev pub untold : Bool → Option Accepted
untold false = None
untold true = Some (record { had = None; read_faults = 0; write_faults = 0 })
