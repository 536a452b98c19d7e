-- A session's connections, and what is outside it.
use Rattle.std.specs.Prelude.{◌≡◌, ℕ, Bool, true, List, [], ◌∷◌}
use Rattle.model_text.specs.text.Map.{without}
use Rattle.model_world.specs.Outside.{Outside}
use Rattle.model_world.specs.Session.{Session}

-- these connections of a session may end, one after the other
abbrev pub MayLeave : {S : Type 0} → Outside S → (has : (connection : ℕ) → S → Bool) → List ℕ → S → Type 0
MayLeave outside has [] rest = Unit {0}
MayLeave outside has (n ∷ ns) rest = (has n rest ≡ true) × MayLeave outside has ns (outside.leave rest n)

-- the session without a fid, whose connections still live
abbrev pub without_fid : Session → ℕ → Session
without_fid session fid = record session { fids = without session.fids fid }

-- a session and what is outside it
abbrev pub left_of : {S : Type 0} → Session → S → Session × S
left_of session rest = (session, rest)
