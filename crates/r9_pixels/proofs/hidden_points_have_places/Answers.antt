use Rattle.r9_pixels.proofs.Points.{hidden_has}
use Rattle.r9_pixels.proofs.hidden_points_have_places.Goals as goal

pub returns : goal.returns
returns c = hidden_has
