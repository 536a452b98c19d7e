-- What a read of a directory promises.
use Rattle.std.specs.Prelude.{◌≡◌, ℕ, List, Result, Ok, Err}
use Rattle.model_text.specs.text.Outcome.{Outcome}
use Rattle.model_world.specs.Session.{Fid}
use Rattle.r9_files.specs.declared.files.fault.Fault.{Fault}
use Rattle.r9_files.specs.declared.files.fault.Fault.TheVariants as fault

-- what is read is what is defined, with what the fid keeps from then on
abbrev pub IsRead : (found : Result (List ℕ) Fault) (new : Fid) → Outcome (Fid × List ℕ) → Type 0
IsRead (Ok bytes) new defined = defined ≡ Ok (new, bytes)
IsRead (Err (fault.Refused n)) new defined = defined ≡ Err n
IsRead (Err fault.Memory) new defined = Unit {0}
