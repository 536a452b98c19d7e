use Rattle.std.proofs.Common.{sym, ap, ◌∙◌}
use Rattle.r9_geom.specs.Geometry.{area_of}
use Rattle.r9_device.proofs.device.Rects.{empty-area}
use Rattle.r9_draw.proofs.messages.fonts.points_of_both.Goals as goal

pub returns-then-is_empty : goal.returns-then-is_empty
returns-then-is_empty c =
    sym (ap area_of (sym c.meet-both.ensures.exact) ∙ empty-area c.meet-both.result (sym c.is_empty.ensures.exact ∙ c.if-is_empty.true))
