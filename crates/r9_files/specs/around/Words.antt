-- What calls of an outside promise.
use Rattle.std.specs.Prelude.{ℕ, List, Option, None, Some}
use Rattle.r9_files.specs.declared.files.fault.Fault.{Fault}
use Rattle.r9_files.specs.declared.files.fault.Fault.TheVariants as fault
use Rattle.r9_files.specs.declared.around.wrote.Told.{Told}

-- a fact about the number of a refusal, where it is one
abbrev pub IfRefused : Fault → (ℕ → Type 0) → Type 0
IfRefused (fault.Refused n) P = P n
IfRefused fault.Memory P = Unit {0}

-- the mark with which a data write stands in the history
abbrev pub mark_after : (mark short : Option ℕ) → Option ℕ
mark_after mark None = mark
mark_after mark (Some k) = Some k

-- what is told of the messages of a data write of a connection, with the mark with which it stands in the history
abbrev pub Tells : Type 0 → Type 1
Tells S = (connection : ℕ) → S → List ℕ → (mark : Option ℕ) → Told → Type 0

-- something is told, of which a fact holds
abbrev pub AreTold : Option Told → (Told → Type 0) → Type 0
AreTold None P = ⊥
AreTold (Some told) P = P told
