-- What the framer gives as the definitions have it.
use Rattle.std.specs.Prelude.{ℕ, ◌≤◌, length}
use Rattle.r9_frame.specs.declared.next.Next.{Next}
use Rattle.r9_frame.specs.declared.next.Next.TheVariants as code
use Rattle.model_files.specs.frame.Frame as model

abbrev pub cut_of : Next → model.Cut
cut_of (code.Frame frame) = model.Frame frame
cut_of code.NeedMore = model.NeedMore
cut_of (code.BadSize size) = model.BadSize size

-- a frame that is given has at most so many bytes
abbrev pub IsWithin : Next → ℕ → Type 0
IsWithin (code.Frame frame) most = length frame ≤ most
IsWithin code.NeedMore most = Unit {0}
IsWithin (code.BadSize size) most = Unit {0}
