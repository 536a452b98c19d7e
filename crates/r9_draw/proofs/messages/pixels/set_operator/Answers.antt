use Rattle.std.proofs.Common.{ℕ, List, ap, ◌∙◌}
use Rattle.model_text.specs.text.Map.{lookup}
use Rattle.model_draw.specs.draw.World.{Client}
use Rattle.r9_device.proofs.device.Manager.{manager-with}
use Rattle.r9_draw.proofs.messages.pixels.set_operator.Goals as goal

pub invariant_of-device-clause-manager : goal.invariant_of-device-clause-manager
invariant_of-device-clause-manager c =
    ap (λ (es : List (ℕ × Client)). lookup es 0) c.set_op.ensures ∙ manager-with c.args.device.now.clients.entries c.args.client _ c.requires c.args.device.now.manager
