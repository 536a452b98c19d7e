-- A layout of the code as one of the definitions, and what a refusal says.
use Rattle.std.specs.Prelude.{ℕ}
use Rattle.model_draw_parts.specs.fonts.Font as model
use Rattle.r9_fonts.specs.declared.font.FontFault.{FontFault}
use Rattle.r9_fonts.specs.declared.font.FontFault.TheVariants as fault
use Rattle.r9_fonts.specs.declared.layout.Layout.{Layout}

abbrev pub layout_of : Layout → model.Layout
layout_of l = record { pieces = l.pieces; end = l.end }

-- a fact about the number of a refusal, where it is one
abbrev pub IfRefused : FontFault → (ℕ → Type 0) → Type 0
IfRefused (fault.Refused n) P = P n
IfRefused fault.Memory P = Unit {0}

-- a fact where there was no memory
abbrev pub IfMemory : FontFault → Type 0 → Type 0
IfMemory (fault.Refused n) P = Unit {0}
IfMemory fault.Memory P = P
