use Rattle.law_shown.proofs.fitting.Acts.{act_fits}
use Rattle.law_shown.proofs.fitting.orders_of_acts_fit.Goals as goal

pub returns : goal.returns
returns c = record {
  fit = λ device table a step sound orderly shows spelled finds e. (act_fits device table a step sound orderly shows spelled finds e).all;
  orderly = λ device table a step sound orderly shows spelled finds e. (act_fits device table a step sound orderly shows spelled finds e).orderly;
  shows = λ device table a step sound orderly shows spelled finds e. (act_fits device table a step sound orderly shows spelled finds e).shows;
}
