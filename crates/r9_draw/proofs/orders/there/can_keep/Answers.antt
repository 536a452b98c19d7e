use Rattle.std.proofs.Common.{arith}
use Rattle.std.specs.Prelude.{◌^◌}
use Rattle.r9_draw.proofs.orders.Fitting.{window-rect-near}
use Rattle.r9_device.proofs.device.Rects.{wider}
use Rattle.r9_draw.proofs.orders.there.can_keep.Goals as goal

pub is_as_wide-requires-clause-rect : goal.is_as_wide-requires-clause-rect
is_as_wide-requires-clause-rect c = wider (2 ^ 32) (2 ^ 33) c.args.r.now (omega arith) (window-rect-near c.args.r.now c.requires.rect)

pub is_as_high-requires-clause-rect : goal.is_as_high-requires-clause-rect
is_as_high-requires-clause-rect c = wider (2 ^ 32) (2 ^ 33) c.args.r.now (omega arith) (window-rect-near c.args.r.now c.requires.rect)
