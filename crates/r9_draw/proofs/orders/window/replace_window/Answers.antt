use Rattle.std.proofs.Common.{ℕ, subst}
use Rattle.r9_draw.specs.orders.Ordering.{IsNext}
use Rattle.r9_device.specs.device.World.{world_of}
use Rattle.r9_draw.proofs.orders.Windows.{replaced-ok}
use Rattle.r9_draw.proofs.orders.Costs.{replaced-within}
use Rattle.r9_draw.proofs.orders.window.replace_window.Goals as goal

pub returns-clause-replaced : goal.returns-clause-replaced
returns-clause-replaced g c = λ host at.
    replaced-ok c.name_window.result (world_of c.args.device.now) (world_of c.renew_window.new.device) (world_of c.name_window.new.device) c.args.window host c.args.next.now.screen c.args.next.now c.args.name.now at
    (subst (λ (s : ℕ). IsNext (world_of c.args.device.now) c.args.window s c.args.next.now) at c.requires.next) c.in_ok-renew_window.ensures.renewed c.name_window.ensures.named

pub returns-clause-steps : goal.returns-clause-steps
returns-clause-steps g c = λ host at.
    replaced-within c.name_window.result (world_of c.args.device.now) c.args.window host c.args.next.now c.args.steps.now c.renew_window.new.steps
    (subst (λ (s : ℕ). IsNext (world_of c.args.device.now) c.args.window s c.args.next.now) at c.requires.next) c.in_ok-renew_window.ensures.steps
