use Rattle.std.proofs.Common.{ℕ, List, ap, ◌∙◌}
use Rattle.model_text.specs.text.Map.{lookup}
use Rattle.model_draw.specs.draw.World.{Client}
use Rattle.r9_device.proofs.device.Manager.{manager-with}
use Rattle.r9_device.proofs.device.Rects.{inside-holds}
use Rattle.r9_draw.proofs.messages.pixels.read_pixels.Goals as goal

pub unload-requires-clause-inside : goal.unload-requires-clause-inside
unload-requires-clause-inside c = inside-holds c.args.r _ c.requires.part.some c.requires.part.inside

pub invariant_of-device-clause-manager : goal.invariant_of-device-clause-manager
invariant_of-device-clause-manager c =
    ap (λ (es : List (ℕ × Client)). lookup es 0) c.replace_pending.ensures.after ∙ manager-with c.args.device.now.clients.entries c.args.client _ c.requires.live c.args.device.now.manager
