use Rattle.std.proofs.Common.{◌^◌, ap, arith, sym, subst}
use Rattle.r9_geom.specs.Geometry.{IsNearBy}
use Rattle.r9_locate.specs.declared.info.Info.{Info}
use Rattle.r9_device.proofs.device.Rects.{point-wider}
use Rattle.r9_draw.proofs.orders.going.move_out.Goals as goal

pub origin-requires-clause-min : goal.origin-requires-clause-min
origin-requires-clause-min g c =
    subst (IsNearBy (2 ^ 34)) (sym (ap (λ (info : Info). info.r.min) c.info.ensures)) (point-wider (2 ^ 32) (2 ^ 34) _ (omega arith) c.requires.near.min)
