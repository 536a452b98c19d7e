-- The fids of a session as a finite map, a list of pairs in ascending order of the fids (intro(5)).
use Rattle.std.specs.Prelude.{ℕ, ◌==◌, ◌||◌, ◌&&◌, Bool, not, is_some, List, length, nat_le, Option, Some, None, Result, Ok, Err, if◌then◌else◌}
use Rattle.std.specs.Map.{lookup}
use Rattle.std.specs.Option.{option_map_or}
use Rattle.r9_fids.specs.declared.table.FidFault.{FidFault}
use Rattle.r9_fids.specs.declared.table.FidFault.TheVariants.{Refused, Memory}
use Rattle.r9_fids.specs.declared.table.TheConstants.{NO_FID, LIMIT}

-- the test of the map's keys that finds a fid
abbrev pub is_fid : ℕ → ℕ → Bool
is_fid fid key = key == fid

-- what a file that is open, or not, is refused by where it is wanted so, or not
abbrev pub open_refusal : (wanted is_open : Bool) → Option ℕ
open_refusal wanted is_open =
    if is_open && not wanted then Some 36
    else if wanted && not is_open then Some 37
    else None

module _ {F : Type 0} where
  -- what binding a fid is refused by: 33 where it is bound or is the number of no file, else 44 where the table is full
  abbrev pub bind_refusal : List (ℕ × F) → ℕ → Option ℕ
  bind_refusal fids fid =
      if (fid == NO_FID) || is_some (lookup (is_fid fid) fids) then Some 33
      else if nat_le LIMIT (length fids) then Some 44
      else None

  -- what the use of a fid is refused by: 32 where it is not bound
  abbrev pub use_refusal : (F → Bool) → List (ℕ × F) → ℕ → Bool → Option ℕ
  use_refusal is_open fids fid wanted =
      option_map_or (λ file. open_refusal wanted (is_open file)) (lookup (is_fid fid) fids) (Some 32)

-- the number of a refusal; want of memory is none, and comes only where nothing is refused
abbrev pub refusal_of : FidFault → Option ℕ
refusal_of (Refused n) = Some n
refusal_of Memory = None

-- refused by the number, or not
abbrev pub answer : Option ℕ → Result (Unit {0}) FidFault
answer None = Ok tt
answer (Some n) = Err (Refused n)
