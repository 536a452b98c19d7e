use Rattle.model_exchanged.proofs.resize.Sizes.{resize-forest}
use Rattle.model_exchanged.proofs.resize.keeps_forest.Goals as goal

pub returns : goal.returns
returns c = λ world i columns rows raw ok can few low fits. resize-forest world i columns rows raw ok can few low fits
