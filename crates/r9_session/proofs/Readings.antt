-- Reads of a session's fids.
use Rattle.std.proofs.Common.{◌≡◌, ℕ, List, Option, None, Some, Result, Ok, Err, OnErr, ap, ◌∙◌}
use Rattle.model_text.specs.text.Outcome.{Outcome}
use Rattle.model_text.specs.text.Map.{lookup, with}
use Rattle.model_text.proofs.map.Maps.{with-same}
use Rattle.model_world.specs.Session.{Fid, Session}
use Rattle.model_world.specs.Reading.{Given}
use Rattle.r9_memory.specs.declared.Memory.{Memory}
use Rattle.r9_files.specs.declared.files.fault.Fault.{Fault}
use Rattle.r9_files.specs.declared.files.fault.Fault.TheVariants as fault
use Rattle.r9_files.specs.files.Reads.{IsRead}
use Rattle.r9_files.specs.access.Reads.{IsFileRead, IsGivenNow}
use Rattle.r9_session.specs.Reads.{IsGivenOf, IsListed, IsReadOf}

abbrev with_fids : Session → List (ℕ × Fid) → Session
with_fids session fids = record session { fids = fids }

-- a fid that was written back as it was
same_fids : (old : Session) (fid : ℕ) (found after : Fid) (fids : List (ℕ × Fid)) → lookup old.fids fid ≡ Some found → after ≡ found → fids ≡ with old.fids fid after
    → with_fids old fids ≡ old
same_fids old fid found after fids at kept written =
    ap (with_fids old) (written ∙ ap (λ (x : Fid). with old.fids fid x) kept ∙ with-same old.fids fid found at)

pub read_of : (old : Session) (fid : ℕ) (r : Result (List ℕ) Fault) (found after : Fid) (fids : List (ℕ × Fid)) (defined : Outcome (Fid × List ℕ))
    → lookup old.fids fid ≡ Some found → IsRead r after defined → OnErr r (after ≡ found) → fids ≡ with old.fids fid after → IsListed old fid r (record old { fids = fids }) defined
read_of old fid (Ok bytes) found after fids defined at is kept written = (after, is, ap (with_fids old) written)
read_of old fid (Err (fault.Refused n)) found after fids defined at is kept written = (is, same_fids old fid found after fids at kept written)
read_of old fid (Err fault.Memory) found after fids defined at is kept written = tt

-- the same of a file that is no directory
pub file_read_of : {S : Type 0} (old : Session) (before rest : S) (fid : ℕ) (r : Result (Option (List ℕ)) Fault) (found after : Fid) (fids : List (ℕ × Fid)) (defined : Outcome (Option (Given S)))
    → lookup old.fids fid ≡ Some found → IsFileRead found before r after rest defined → fids ≡ with old.fids fid after → IsReadOf old before fid r (record old { fids = fids }) rest defined
file_read_of old before rest fid (Ok (Some bytes)) found after fids defined at is written = (after, is, ap (with_fids old) written)
file_read_of old before rest fid (Ok None) found after fids defined at is written = (is.0, same_fids old fid found after fids at is.1 written, is.2)
file_read_of old before rest fid (Err (fault.Refused n)) found after fids defined at is written = (is.0, same_fids old fid found after fids at is.1 written, is.2)
file_read_of old before rest fid (Err fault.Memory) found after fids defined at is written = tt

-- and of what it gives now
pub given_of : {S : Type 0} (old : Session) (before rest : S) (fid : ℕ) (r : Result (Option (List ℕ)) Memory) (found after : Fid) (fids : List (ℕ × Fid)) (defined : Option (Given S))
    → lookup old.fids fid ≡ Some found → IsGivenNow found before r after rest defined → fids ≡ with old.fids fid after → IsGivenOf old before fid r (record old { fids = fids }) rest defined
given_of old before rest fid (Ok (Some bytes)) found after fids defined at is written = (after, is, ap (with_fids old) written)
given_of old before rest fid (Ok None) found after fids defined at is written = (is.0, same_fids old fid found after fids at is.1 written, is.2)
given_of old before rest fid (Err e) found after fids defined at is written = tt
