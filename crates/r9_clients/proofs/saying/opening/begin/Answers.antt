use Rattle.std.proofs.Common.{◌∙◌}
use Rattle.std.proofs.lemmas.Result.{IfOk-weaker}
use Rattle.r9_clients.proofs.saying.Said.{beginning}
use Rattle.r9_clients.proofs.saying.opening.begin.Goals as goal

pub returns : goal.returns
returns c = IfOk-weaker c.from_slice.result _ _ (λ begun is. is ∙ beginning) c.from_slice.ensures
