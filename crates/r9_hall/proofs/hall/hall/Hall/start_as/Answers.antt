use Rattle.std.proofs.Common.{rules, ℕ, List, refl, ap, arith}
use Rattle.model_world.specs.World.{World}
use Rattle.r9_hall.specs.hall.Outboxes.{waiting}
use Rattle.r9_hall.proofs.hall.Halls.{stands_first}
use Rattle.r9_hall.proofs.hall.hall.Hall.start_as.Goals as goal

pub returns-clause-stands : goal.returns-clause-stands
returns-clause-stands c =
    stands_first c.args.opening _ (ap (λ (w : World). w.opening) c.in_ok-world.ensures.first.world) refl (search rules) c.new-2.ensures c.in_ok-world.ensures.first
    (λ other. ap (λ (o : List (ℕ × List ℕ)). waiting o other) c.new.ensures.empty)

pub invariant_of-result : goal.invariant_of-result
invariant_of-result c = record {
  from = omega arith;
  few = search rules;
  spare = λ _. search rules;
  going = λ _. search rules;
  begun = λ _. search rules;
}
