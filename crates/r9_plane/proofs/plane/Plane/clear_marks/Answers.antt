use Rattle.std.proofs.Common.{refl}
use Rattle.r9_plane.specs.Pixels.{pixel_at}
use Rattle.r9_plane.proofs.plane.Plane.clear_marks.Goals as goal

pub returns-clause-pixels : goal.returns-clause-pixels
unfolding pixel_at
returns-clause-pixels c = refl
