use Rattle.model_client.proofs.textwin.PieceLaws.{joined}
use Rattle.model_client.proofs.textwin.laws.pieces_are_the_text.Goals as goal

pub returns : goal.returns
returns c = joined
