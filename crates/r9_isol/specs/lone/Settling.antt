-- What answering a read that waited promises.
use Rattle.std.specs.Prelude.{◌≡◌, ℕ, List, Option, Some, None}
use Rattle.model_files.specs.wire.Message.{R}
use Rattle.model_files.specs.wire.Spelling.{spelling_of_r}
use Rattle.model_world.specs.Fids.{Left}
use Rattle.model_world.specs.Waiting.{one_answered}
use Rattle.model_alone.specs.alone.Lone.{LoneDesktop, LoneWorld, lone_desktop}

-- what is answered next of the reads that wait
abbrev pub next_of : LoneWorld → Option (Left LoneDesktop)
next_of world = one_answered lone_desktop world.session world.desktop

-- a reply, and the world that it leaves
abbrev pub left_in : LoneWorld → R → Left LoneDesktop
left_in world reply = record { session = world.session; rest = world.desktop; reply = Some reply }

-- The earliest read that can be answered was, and this is the reply in bytes; or none can be, and the world is as before.
abbrev pub IsLate : LoneWorld → Option (List ℕ) → LoneWorld → Type 0
IsLate world None after = (next_of world ≡ None) × (after ≡ world)
IsLate world (Some bytes) after = (reply : R) × (next_of world ≡ Some (left_in after reply)) × (bytes ≡ spelling_of_r reply)
