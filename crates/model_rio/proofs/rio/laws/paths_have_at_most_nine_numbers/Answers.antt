use Rattle.model_rio.proofs.rio.Paths.{path_whole}
use Rattle.model_rio.proofs.rio.laws.paths_have_at_most_nine_numbers.Goals as goal

pub returns : goal.returns
returns c = path_whole
