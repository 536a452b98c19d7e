use Rattle.std.proofs.Common.{◌∙◌}
use Rattle.model_text.proofs.map.Keys.{without_at}
use Rattle.r9_device.proofs.client.client.remove.Goals as goal

pub returns : goal.returns
returns c = c.remove.ensures.entries ∙ without_at c.args.clients.now.entries c.args.client
