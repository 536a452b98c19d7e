use Rattle.std.proofs.Common.{sym, ◌∙◌}
use Rattle.r9_device.proofs.device.Rects.{near-point}
use Rattle.r9_draw.proofs.messages.lookup.is_near_at.Goals as goal

pub at_min-requires-clause-min : goal.at_min-requires-clause-min
at_min-requires-clause-min c = near-point c.args.min (sym c.is_near_point.ensures ∙ c.if-not-is_near_point.false)
