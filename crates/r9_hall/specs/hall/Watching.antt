-- What is seen of a message that was answered.
use Rattle.std.specs.Prelude.{◌≡◌, ℕ, List, Option, None, Some}
use Rattle.model_world.specs.Session.{Session}
use Rattle.model_world.specs.Answer.{answer}
use Rattle.model_world.specs.Desktop.{Desktop}
use Rattle.model_world.specs.Whole.{desktop_for}
use Rattle.model_alone.specs.used.Look.{look_at, used_then}
use Rattle.r9_files.specs.around.Words.{mark_after}
use Rattle.r9_hall.specs.seen.View.{hosts_of, look_of}
use Rattle.r9_hall.specs.declared.hall.sessions.Own.{Own}
use Rattle.r9_hall.specs.declared.hall.watching.Sight.{Sight}

-- the hosts of rios before it, what was seen before, and what it used but for an attach
pub record IsSeen (c : ℕ) (session : Session) (desktop : Desktop) (bytes : List ℕ) (mark short : Option ℕ) (sight : Sight) : Type 0 where
  pub hosts_are : sight.hosts.items ≡ hosts_of desktop.table
  pub look_is : look_of sight.look ≡ look_at c session desktop bytes
  pub uses_are : sight.uses ≡ used_then c desktop (mark_after mark short) (answer (desktop_for c) session desktop bytes (mark_after mark short)).reply (look_at c session desktop bytes)

-- something is seen
abbrev pub IsSeenAs : (c : ℕ) → Session → Desktop → List ℕ → (mark short : Option ℕ) → Option Sight → Type 0
IsSeenAs c session desktop bytes mark short None = ⊥
IsSeenAs c session desktop bytes mark short (Some sight) = IsSeen c session desktop bytes mark short sight

-- the same where its session lives
abbrev pub IsSeenOf : (c : ℕ) → Option Session → Desktop → List ℕ → (mark : Option ℕ) → Option Own → Option Sight → Type 0
IsSeenOf c (Some session) desktop bytes mark (Some own) sight = IsSeenAs c session desktop bytes mark own.short sight
IsSeenOf c session desktop bytes mark own sight = Unit {0}
