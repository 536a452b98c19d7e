use Rattle.model_rio.proofs.rio.RioLaws.{hit}
use Rattle.model_rio.proofs.rio.laws.topmost_is_seen.Goals as goal

pub returns : goal.returns
returns c = λ table host p w e. hit host p table.windows w e
