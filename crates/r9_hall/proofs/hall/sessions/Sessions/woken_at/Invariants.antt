use Rattle.std.proofs.Common.{ℕ, List, ◌++◌}
use Rattle.r9_hall.specs.hall.Settling.{AreWoken}
use Rattle.r9_hall.proofs.hall.sessions.Sessions.woken_at.Given as goal

-- those that are asked of the sessions that are left come behind those that are asked of the others
abbrev pub invariant-loop-number : goal.invariant-loop-number
invariant-loop-number l =
    (later : List ℕ) → AreWoken l.session l.windows l.number-iterator later → AreWoken l.session l.windows l.self.live.entries (l.asked.items ++ later)
