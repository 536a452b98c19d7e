-- How far an input was read.
use Rattle.std.specs.Prelude.{◌≡◌, ◌≤◌, ◌-◌, ℕ, List, ◌++◌, length, Ok}
use Rattle.model_text.specs.text.Outcome.{◌>>=◌}
use Rattle.model_files.specs.declared.mouse.Mouse.{Mouse}
use Rattle.r9_clients.specs.deskfile.Events.{events_from}

-- the events of the input are those that were read, and then those of the rest
pub record IsReadTo (bytes rest : List ℕ) (read : List Mouse) : Type 0 where
  pub part : length rest ≤ length bytes
  pub goes_on : events_from 0 bytes ≡ (events_from (length bytes - length rest) rest >>= λ more. Ok (read ++ more))
