use Rattle.std.proofs.Common.{◌^◌, arith, rules}
use Rattle.r9_device.proofs.device.Rects.{near-of, wider}
use Rattle.r9_draw.proofs.orders.rects.is_window_rect.Goals as goal

pub inside_border-requires : goal.inside_border-requires
inside_border-requires c = wider (2 ^ 32) (2 ^ 33) c.args.r.now (omega arith) (near-of c.args.r.now (search rules))
