use Rattle.std.proofs.Common.{ℕ, List, ap, ◌∙◌}
use Rattle.model_text.specs.text.Map.{lookup}
use Rattle.model_draw.specs.draw.World.{Client}
use Rattle.r9_device.proofs.device.Manager.{manager-with}
use Rattle.r9_layers.specs.Forest.{world}
use Rattle.r9_device.proofs.device.Kept.{kept-drawn}
use Rattle.r9_draw.proofs.messages.pixels.draw.Goals as goal

pub invariant_of-device-2-clause-kept : goal.invariant_of-device-2-clause-kept
invariant_of-device-2-clause-kept g c =
    kept-drawn (world c.args.device.now.forest) (world c.draw.new.self) c.args.device.now.book.book _ c.args.device.now.kept c.requires.ready.dst c.in_ok-draw.ensures.ok

pub invariant_of-device-2-clause-manager : goal.invariant_of-device-2-clause-manager
invariant_of-device-2-clause-manager g c =
    ap (λ (es : List (ℕ × Client)). lookup es 0) c.set_op.ensures ∙ manager-with c.args.device.now.clients.entries c.args.client _ c.requires.live c.args.device.now.manager
