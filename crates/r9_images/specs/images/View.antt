-- What callers see of a book, and what a refusal says.
use Rattle.std.specs.Prelude.{ℕ}
use Rattle.model_draw_parts.specs.images.Book.{Book}
use Rattle.r9_images.specs.declared.images.fault.BookFault.{BookFault}
use Rattle.r9_images.specs.declared.images.fault.BookFault.TheVariants as fault

-- a book, and for how many more of each thing that it lists there is room
pub record Roomy : Type 0 where
  pub book : Book
  pub room : ℕ

-- a fact about the number of a refusal, where it is one
abbrev pub IfRefused : BookFault → (ℕ → Type 0) → Type 0
IfRefused (fault.Refused n) P = P n
IfRefused fault.Memory P = Unit {0}

-- it is not want of memory
abbrev pub IsRefusal : BookFault → Type 0
IsRefusal (fault.Refused n) = Unit {0}
IsRefusal fault.Memory = ⊥
