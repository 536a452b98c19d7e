use Rattle.model_exchanged.proofs.resize.Shown.{other-view}
use Rattle.model_exchanged.proofs.resize.keeps_other_views.Goals as goal

pub returns : goal.returns
returns c = λ world i columns rows raw n p ok can live other. other-view world i columns rows raw n p ok can live other
