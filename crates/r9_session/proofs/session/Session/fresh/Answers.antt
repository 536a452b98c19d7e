use Rattle.std.proofs.Common.{ℕ, List, sym, subst}
use Rattle.model_world.specs.Desktop.{first_desktop}
use Rattle.model_world.specs.Links.{IsLinked}
use Rattle.model_world.proofs.Steps.{first_linked}
use Rattle.r9_session.proofs.session.Session.fresh.Goals as goal

pub returns-clause-first : goal.returns-clause-first
returns-clause-first c = λ number display. subst (λ (ns : List ℕ). IsLinked number 0 ns (first_desktop display).device) (sym c.new-3.ensures) (first_linked number display)
