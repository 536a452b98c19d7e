use Rattle.r9_hall.proofs.hall.Worlds.{first_known, first_linked, first_quiet}
use Rattle.r9_hall.proofs.hall.world.World.start.Goals as goal

pub invariant_of-result : goal.invariant_of-result
invariant_of-result c = record {
  linked = λ _. first_linked c.args.opening c.in_ok-sessions.sessions c.in_ok-sessions.ensures;
  known = λ _. first_known c.args.opening c.in_ok-sessions.sessions c.in_ok-sessions.ensures;
  quiet = λ _. first_quiet c.args.opening c.in_ok-sessions.sessions c.in_ok-sessions.ensures;
}
