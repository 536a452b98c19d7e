-- What is seen of a session, and reasons as the code has them: at most one for each use, and the lowest of all.
use Rattle.std.specs.Prelude.{◌≤◌, ◌==◌, ℕ, Bool, false, List, [], ◌∷◌, length, min, Option, Some, None}
use Rattle.r9_event.specs.declared.event.event.Event.{Event}
use Rattle.r9_event.specs.declared.event.event.Event.TheVariants.{Msg, End}
use Rattle.model_alone.specs.alone.Own.{Watched, lowest}
use Rattle.r9_isol.specs.declared.watch.reasons.Seen.{Seen}

abbrev pub watched_of : Seen → Watched
watched_of s = record { attached = s.attached; window = s.window }

-- one reason, or none
abbrev pub reasons_of : Option ℕ → List ℕ
reasons_of None = []
reasons_of (Some reason) = reason ∷ []

-- the lowest reason, where there are any
abbrev pub least_of : List ℕ → Option ℕ
least_of [] = None
least_of (n ∷ ns) = Some (lowest (n ∷ ns))

-- the lower one of two
abbrev pub least : Option ℕ → Option ℕ → Option ℕ
least None other = other
least (Some a) None = Some a
least (Some a) (Some b) = Some (min a b)

-- a message has a size, a kind and a tag
abbrev pub IsWhole : Event → Type 0
IsWhole (Msg c bytes mark) = 7 ≤ length bytes
IsWhole _ = Unit {0}

-- the end of a session
abbrev pub is_end_of : (c : ℕ) → Event → Bool
is_end_of c (End d) = d == c
is_end_of c _ = false
