use Rattle.std.proofs.Common.{◌≡◌, Some, ap, subst}
use Rattle.r9_event.specs.declared.event.event.Opening.{Opening}
use Rattle.model_world.specs.World.{World}
use Rattle.model_alone.specs.alone.Own.{not_alone}
use Rattle.r9_serve.proofs.alone.watching.watched.Goals as goal

pub returns-clause-ends : goal.returns-clause-ends
returns-clause-ends c =
    let same : c.in_ok-world.world.opening ≡ c.args.opening = ap (λ (w : World). w.opening) c.in_ok-world.ensures.first.world in
    λ entry reason e. subst (λ (opening : Opening). not_alone opening c.args.session c.args.left ≡ Some (entry, reason)) same (c.watch_events.ensures.ends entry reason e)
