use Rattle.model_rio.proofs.rio.Sizes.{size_refused}
use Rattle.model_rio.proofs.rio.laws.sizes_are_refused_as_bad_commands.Goals as goal

pub returns : goal.returns
returns c = size_refused
