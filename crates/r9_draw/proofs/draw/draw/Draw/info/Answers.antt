use Rattle.std.proofs.Common.{ℕ, ap, ◌∙◌}
use Rattle.model_draw.specs.draw.World.{at_number}
use Rattle.r9_device.specs.device.Told.{info_of}
use Rattle.r9_draw.specs.draw.World.{world_of}
use Rattle.r9_draw.proofs.draw.draw.Draw.info.Goals as goal

pub returns-clause-told : goal.returns-clause-told
returns-clause-told c = c.image_info.ensures.told ∙ ap (λ (n : ℕ). info_of (at_number (world_of c.args.self.now) n)) c.image_of.ensures.shown
