use Rattle.law_shown.proofs.fitting.Carried.{all_carried_out}
use Rattle.law_shown.proofs.fitting.fitting_orders_are_carried_out.Goals as goal

pub returns : goal.returns
returns c = all_carried_out
