-- What a fault says.
use Rattle.std.specs.Prelude.{ℕ}
use Rattle.r9_draw.specs.declared.draw.fault.DrawFault.{DrawFault}
use Rattle.r9_draw.specs.declared.draw.fault.DrawFault.TheVariants as fault

-- a fact about the number of a refusal, where it is one
abbrev pub IfRefused : DrawFault → (ℕ → Type 0) → Type 0
IfRefused (fault.Refused n) P = P n
IfRefused fault.Memory P = Unit {0}
