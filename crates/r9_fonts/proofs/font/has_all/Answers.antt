use Rattle.std.proofs.Common.{rules, tests}
use Rattle.std.proofs.lemmas.Iterator.{YieldsList-from_slice}
use Rattle.std.proofs.lemmas.Iterator.Search.{all_from_yields_List}
use Rattle.model_draw_parts.specs.fonts.Font.{has_index}
use Rattle.r9_fonts.proofs.font.has_all.Goals as goal

pub returns : goal.returns
returns c =
    all_from_yields_List (has_index c.args.font.now) _ _ _ c.all.ensures.ran (YieldsList-from_slice c.args.indices.now cc) (λ x b q k. search (rules, tests))
