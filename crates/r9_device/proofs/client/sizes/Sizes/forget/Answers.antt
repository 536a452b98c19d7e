use Rattle.std.proofs.Common.{ap, ◌∙◌}
use Rattle.model_text.specs.text.Map.{without}
use Rattle.r9_device.specs.client.Counted.{Counted}
use Rattle.r9_device.specs.client.Rows.{entries_of}
use Rattle.r9_device.proofs.client.Counting.{without-rows}
use Rattle.r9_device.proofs.client.sizes.Sizes.forget.Goals as goal

pub returns : goal.returns
returns c =
    ap entries_of c.take-before.ensures.rows ∙ without-rows c.args.id _ c.take-before.ensures.order ∙ ap (λ (s : Counted). without s.entries c.args.id) c.self.view_is
