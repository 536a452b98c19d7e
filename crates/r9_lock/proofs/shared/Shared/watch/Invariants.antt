use Rattle.r9_lock.specs.Turns.{IsSameSeat, Looks}
use Rattle.r9_lock.proofs.shared.Shared.watch.Given as goal

abbrev pub invariant-loop : goal.invariant-loop
invariant-loop g l = record {
  same : IsSameSeat l.initial.seat l.seat;
  looks : Looks l.initial.seat.me l.seat.me;
}
