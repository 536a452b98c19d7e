use Rattle.std.proofs.Common.{◌≡◌, ◌++◌, ℕ, List, length}
use Rattle.r9_textwin.specs.Steps.{Brings}
use Rattle.r9_textwin.proofs.window.feed_all.Given as goal

-- what has come, and what is left
abbrev pub invariant-loop-rest : goal.invariant-loop-rest
invariant-loop-rest l = (front : List ℕ) × (front ++ l.rest ≡ l.fn.piece) × Brings l.fn.place front l.moves l.next

abbrev pub decreases-loop-rest : goal.decreases-loop-rest
decreases-loop-rest l = length l.rest
