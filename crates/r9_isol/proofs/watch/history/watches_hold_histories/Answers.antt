use Rattle.std.proofs.Common.{refl}
use Rattle.r9_isol.proofs.watch.Histories.{ends, goes_on, shows}
use Rattle.r9_isol.proofs.watch.history.watches_hold_histories.Goals as goal

pub returns : goal.returns
returns c = record {
  starts = λ opening session. refl;
  shows = shows;
  goes_on = goes_on;
  ends = ends;
}
