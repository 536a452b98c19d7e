use Rattle.model_mirror.proofs.Squares.{few}
use Rattle.model_mirror.proofs.few_cells_meet_the_cursor.Goals as goal

pub returns : goal.returns
returns c = record { few = few }
