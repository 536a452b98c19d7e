use Rattle.std.proofs.Common.{◌≡◌, ◌<◌, ℕ, get_or, eqb, false}
use Rattle.r9_session.proofs.answer.before_period.Given as goal

abbrev pub invariant-loop-at : goal.invariant-loop-at
invariant-loop-at l = (k : ℕ) → k < l.at → eqb (get_or l.text k 0) 46 ≡ false
