use Rattle.model_rio.proofs.rio.Paths.{path_found, found_path}
use Rattle.model_rio.proofs.rio.laws.paths_name_windows.Goals as goal

pub returns : goal.returns
returns c = record { found = path_found; path = found_path }
