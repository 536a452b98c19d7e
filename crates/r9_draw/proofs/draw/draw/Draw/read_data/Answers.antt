use Rattle.std.proofs.Common.{ℕ, List, ap, ◌∙◌}
use Rattle.model_text.specs.text.Map.{lookup}
use Rattle.model_draw.specs.draw.World.{Client}
use Rattle.r9_device.proofs.device.Manager.{manager-with}
use Rattle.r9_draw.proofs.draw.draw.Draw.read_data.Goals as goal

pub invariant_of-self-clause-manager : goal.invariant_of-self-clause-manager
invariant_of-self-clause-manager c =
    ap (λ (es : List (ℕ × Client)). lookup es 0) c.replace_pending.ensures.after ∙ manager-with c.args.self.now.device.clients.entries c.args.client _ c.requires c.args.self.now.device.manager
