-- What a read of a fid promises.
use Rattle.std.specs.Prelude.{◌≡◌, ℕ, true, false, nat_le, length, List, Option, Some, None, Result, Ok, Err}
use Rattle.model_text.specs.text.Outcome.{Outcome}
use Rattle.model_world.specs.Session.{Fid, Session, Wait}
use Rattle.model_files.specs.wire.Spelling.{FitsR}
use Rattle.model_world.specs.Fids.{Left, with_fid}
use Rattle.model_world.specs.Reading.{Given, given_by, most_waiting, parked}
use Rattle.r9_memory.specs.declared.Memory.{Memory}
use Rattle.r9_wire.specs.declared.message.Rmsg.{Rmsg}
use Rattle.r9_wire.specs.View.{r_of}
use Rattle.r9_files.specs.declared.files.fault.Fault.{Fault}
use Rattle.r9_files.specs.declared.files.fault.Fault.TheVariants as fault

-- what is read of a listing is what is defined, with what the session's fid keeps from then on
abbrev pub IsListed : (old : Session) (fid : ℕ) (found : Result (List ℕ) Fault) (new : Session) → Outcome (Fid × List ℕ) → Type 0
IsListed old fid (Ok bytes) new defined = (after : Fid) × (defined ≡ Ok (after, bytes)) × (new ≡ with_fid old fid after)
IsListed old fid (Err (fault.Refused n)) new defined = (defined ≡ Err n) × (new ≡ old)
IsListed old fid (Err fault.Memory) new defined = Unit {0}

-- the same of any read, with what is left outside; all is as before where the read waits
abbrev pub IsReadOf : {S : Type 0} → (old : Session) (before : S) (fid : ℕ) (found : Result (Option (List ℕ)) Fault) (new : Session) (after : S) → Outcome (Option (Given S)) → Type 0
IsReadOf old before fid (Ok (Some bytes)) new after defined = (kept : Fid) × (defined ≡ Ok (Some (given_by kept after bytes))) × (new ≡ with_fid old fid kept)
IsReadOf old before fid (Ok None) new after defined = (defined ≡ Ok None) × (new ≡ old) × (after ≡ before)
IsReadOf old before fid (Err (fault.Refused n)) new after defined = (defined ≡ Err n) × (new ≡ old) × (after ≡ before)
IsReadOf old before fid (Err fault.Memory) new after defined = Unit {0}

-- the same of what a read that waited gets
abbrev pub IsAwaited : {S : Type 0} → (old : Session) (before : S) (fid : ℕ) (found : Result (Option (List ℕ)) Fault) (new : Session) (after : S) → Option (Outcome (Given S)) → Type 0
IsAwaited old before fid (Ok (Some bytes)) new after defined = (kept : Fid) × (defined ≡ Some (Ok (given_by kept after bytes))) × (new ≡ with_fid old fid kept)
IsAwaited old before fid (Ok None) new after defined = (defined ≡ None) × (new ≡ old) × (after ≡ before)
IsAwaited old before fid (Err (fault.Refused n)) new after defined = (defined ≡ Some (Err n)) × (new ≡ old) × (after ≡ before)
IsAwaited old before fid (Err fault.Memory) new after defined = Unit {0}

-- a read waits from now on; 45 where 64 do already, and then all is as before
abbrev pub IsParked : (old : Session) (tag : ℕ) → Wait → (found : Result (Unit {0}) Fault) (new : Session) → Type 0
IsParked old tag wait (Ok _) new = (nat_le most_waiting (length old.waiting) ≡ false) × (new ≡ parked old tag wait)
IsParked old tag wait (Err (fault.Refused n)) new = (nat_le most_waiting (length old.waiting) ≡ true) × (n ≡ 45) × (new ≡ old)
IsParked old tag wait (Err fault.Memory) new = Unit {0}

-- what is given of a file now is what is defined, with what the session's fid keeps; all is as before where its read waits on
abbrev pub IsGivenOf : {S : Type 0} → (old : Session) (before : S) (fid : ℕ) (found : Result (Option (List ℕ)) Memory) (new : Session) (after : S) → Option (Given S) → Type 0
IsGivenOf old before fid (Ok (Some bytes)) new after defined = (kept : Fid) × (defined ≡ Some (given_by kept after bytes)) × (new ≡ with_fid old fid kept)
IsGivenOf old before fid (Ok None) new after defined = (defined ≡ None) × (new ≡ old) × (after ≡ before)
IsGivenOf old before fid (Err _) new after defined = Unit {0}

-- a read that waited is answered, or else all is as before and is answered what comes later
abbrev pub IsFirst : {S : Type 0} → (old : Session) (before : S) (found : Option Rmsg) (new : Session) (after : S) (defined later : Option (Left S)) → Type 0
IsFirst old before (Some reply) new after defined later = (defined ≡ Some (record { session = new; rest = after; reply = Some (r_of reply) })) × FitsR (r_of reply)
IsFirst old before None new after defined later = (defined ≡ later) × (new ≡ old) × (after ≡ before)
