use Rattle.std.proofs.Common.{ap, ◌∙◌}
use Rattle.std.specs.Prelude.{nat_lt}
use Rattle.model_draw_parts.specs.fonts.Font.{Font}
use Rattle.r9_fonts.proofs.Kept.{has-kept}
use Rattle.r9_fonts.proofs.font.Font.has.Goals as goal

pub returns : goal.returns
returns c = ap (λ i. nat_lt i c.self.inside.count) c.from.ensures ∙ has-kept c.args.self.now c.self.inside.count _ c.args.index (ap (λ (f : Font). f.cells) c.self.view_is)
