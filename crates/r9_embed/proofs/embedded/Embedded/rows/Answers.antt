use Rattle.std.proofs.Common.{sym, ◌∙◌}
use Rattle.r9_shown.proofs.Columns.{some_points}
use Rattle.r9_embed.proofs.embedded.Embedded.rows.Goals as goal

pub rows-requires-clause-points : goal.rows-requires-clause-points
rows-requires-clause-points c = some_points c.args.r (sym c.is_empty.ensures.exact ∙ c.if-is_empty.false)
