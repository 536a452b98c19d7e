use Rattle.std.proofs.Common.{◌∙◌, sym}
use Rattle.r9_cells.proofs.Spans.{off_nowhere}
use Rattle.r9_cells.proofs.hiding.is_nowhere.Goals as goal

pub returns-in-Some : goal.returns-in-Some
returns-in-Some c e areas span r = off_nowhere c.args.near.now areas r c.in-Some.near span c.in-Some.is (sym c.is_empty.ensures.exact ∙ e)
