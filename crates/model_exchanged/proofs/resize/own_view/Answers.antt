use Rattle.model_exchanged.proofs.resize.Shown.{sized-view}
use Rattle.model_exchanged.proofs.resize.own_view.Goals as goal

pub returns : goal.returns
returns c = λ world i columns rows raw p ok can few low fits inside. sized-view world i columns rows raw p ok can few low fits inside
