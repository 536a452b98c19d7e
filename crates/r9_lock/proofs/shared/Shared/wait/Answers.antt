use Rattle.r9_lock.proofs.Passing.{pass_looked}
use Rattle.r9_lock.proofs.shared.Shared.wait.Goals as goal

pub invariant_of-pass : goal.invariant_of-pass
invariant_of-pass g c = pass_looked c.pass.inside.seen c.pass.inside.seat.me _ c.watch.ensures.looks c.pass.invariant
