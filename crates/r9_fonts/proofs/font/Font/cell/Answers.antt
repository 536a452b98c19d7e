use Rattle.std.proofs.Common.{◌^◌, ap}
use Rattle.model_draw_parts.specs.fonts.Font.{Font}
use Rattle.r9_fonts.proofs.Kept.{cell-kept, near-kept}
use Rattle.r9_fonts.proofs.font.Font.cell.Goals as goal

pub returns-in-Some-clause-value : goal.returns-in-Some-clause-value
returns-in-Some-clause-value c = cell-kept c.args.self.now c.self.inside.count _ c.args.index _ (ap (λ (f : Font). f.cells) c.self.view_is) c.requires c.in-Some.ensures.value

pub returns-in-Some-clause-near : goal.returns-in-Some-clause-near
returns-in-Some-clause-near c = near-kept (2 ^ 33) c.args.self.now c.self.inside.count _ c.args.index _ (ap (λ (f : Font). f.cells) c.self.view_is) c.requires c.in-Some.ensures.value c.self.invariant

pub returns-in-None-clause-value : goal.returns-in-None-clause-value
returns-in-None-clause-value c = cell-kept c.args.self.now c.self.inside.count _ c.args.index _ (ap (λ (f : Font). f.cells) c.self.view_is) c.requires c.in-None.ensures.value
