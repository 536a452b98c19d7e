-- What a door tells of its sessions.
use Rattle.std.specs.Prelude.{◌≡◌, ◌+◌, ℕ, List, [], ◌∷◌, ◌++◌, Option}
use Rattle.std.specs.Option.{option_map}

-- the ends of a session when they were accepted: what the source had left, and the counts of faults
pub record Accepted : Type 0 where
  pub had : Option (List ℕ)
  pub read_faults : ℕ
  pub write_faults : ℕ

-- an ended session: its number, if it began, how its ends were accepted, and its ends
pub record Ended (In Out : Type 0) : Type 0 where
  pub session : Option ℕ
  pub accepted : Accepted
  pub input : In
  pub output : Out

-- one session less is to come, where their number is told
abbrev pub OneLess : (before after : Option ℕ) → Type 0
OneLess before after = before ≡ option_map (λ n. n + 1) after

-- one more has ended, where they are told
abbrev pub OneMore : {In Out : Type 0} (before : Option (List (Ended In Out))) → Ended In Out → (after : Option (List (Ended In Out))) → Type 0
OneMore before ended after = after ≡ option_map (λ list. list ++ ended ∷ []) before
