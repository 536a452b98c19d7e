use Rattle.std.proofs.Common.{subst}
use Rattle.std.specs.Prelude.{◌^◌}
use Rattle.r9_geom.specs.Geometry.{IsRectNearBy}
use Rattle.r9_desktop.specs.World.{display_of}
use Rattle.r9_desktop.proofs.Display.{near_part, ordered_part}
use Rattle.r9_desktop.proofs.desktop.Desktop.with_rows.Goals as goal

pub with_rows-requires-clause-near : goal.with_rows-requires-clause-near
unfolding display_of
with_rows-requires-clause-near c =
    near_part (display_of c.args.self.now).r c.args.r (subst (IsRectNearBy (2 ^ 33)) c.display.ensures.r c.display.ensures.near) c.requires.points c.requires.inside

pub with_rows-requires-clause-ordered : goal.with_rows-requires-clause-ordered
with_rows-requires-clause-ordered c = ordered_part c.args.r c.requires.points
