use Rattle.std.proofs.Common.{sym, subst}
use Rattle.model_world.specs.Links.{IsLinked}
use Rattle.model_world.specs.World.{display_of}
use Rattle.model_alone.specs.alone.Lone.{LoneDesktop, started_alone}
use Rattle.r9_isol.proofs.lone.lone.Lone.start.Goals as goal

pub returns-clause-linked : goal.returns-clause-linked
unfolding started_alone
returns-clause-linked c =
    subst (λ (d : LoneDesktop). IsLinked 1 c.fresh.result.made c.fresh.result.connections d.device) (sym c.in_ok-start_desktop.ensures) (c.fresh.ensures.first 1 (display_of c.args.opening.now))
