-- What calls of a desktop promise.
use Rattle.std.specs.Prelude.{◌≡◌, ◌==◌, ◌||◌, ℕ, Bool, Option, List, [], ◌∷◌, if◌then◌else◌}
use Rattle.model_files.specs.declared.tree.Kind.{Kind}
use Rattle.model_files.specs.declared.tree.Kind.TheVariants.{Wsys, Screen, Snarf}
use Rattle.model_world.specs.Fids.{is_kind}
use Rattle.model_world.specs.Desktop.{Desktop}
use Rattle.model_world.specs.Whole.{client}
use Rattle.model_draw.specs.draw.World.{World}
use Rattle.model_draw.specs.draw.Act.{written}
use Rattle.model_draw.specs.looked.Rows.{rows_within}
use Rattle.r9_files.specs.around.Words.{Tells}
use Rattle.r9_files.specs.declared.around.wrote.Told.{Told}
use Rattle.r9_draw.specs.declared.draw.fault.DrawFault.{DrawFault}
use Rattle.r9_draw.specs.declared.draw.fault.DrawFault.TheVariants as draw
use Rattle.r9_files.specs.declared.files.fault.Fault.{Fault}
use Rattle.r9_files.specs.declared.files.fault.Fault.TheVariants as fault

-- a fault of the draw device as one of a file
abbrev pub fault_of_draw : DrawFault → Fault
fault_of_draw (draw.Refused n) = fault.Refused n
fault_of_draw draw.Memory = fault.Memory

-- no connection to the draw device is touched
abbrev pub SameClients : (before after : Desktop) → Type 0
SameClients before after = after.device.clients ≡ before.device.clients

-- the kinds of files that belong to a rio
abbrev pub is_of_rio : Kind → Bool
is_of_rio kind = is_kind Wsys kind || is_kind Screen kind || is_kind Snarf kind

-- a number in front of others that do not begin with it
abbrev pub in_front : ℕ → List ℕ → List ℕ
in_front n [] = n ∷ []
in_front n (m ∷ ms) = if n == m then m ∷ ms else n ∷ m ∷ ms

-- so many messages of a write to the draw device were done, and the rows of each `y` among them had so many bytes
pub record AreDone (k : ℕ) (device : World) (bytes : List ℕ) (mark : Option ℕ) (told : Told) : Type 0 where
  pub done : told.done ≡ (written k device bytes mark).done
  pub rows : told.rows ≡ rows_within (written k device bytes mark).done k device bytes

-- what is told of a data write of a session's connection
abbrev pub tells_for : (session : ℕ) → Tells Desktop
tells_for session = λ connection desktop bytes mark told. AreDone (client session connection) desktop.device bytes mark told
