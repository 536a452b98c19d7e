use Rattle.law_devices.proofs.sides.Costs.{history_paid}
use Rattle.law_devices.proofs.sides.another_size_is_paid.Goals as goal

pub returns : goal.returns
returns c = history_paid
