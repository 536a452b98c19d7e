use Rattle.std.proofs.Common.{rules}
use Rattle.r9_attend.proofs.attend.TheEnd.{read_left}
use Rattle.r9_attend.proofs.attend.session.both_in.Goals as goal

pub returns-clause-reader : goal.returns-clause-reader
returns-clause-reader g c = read_left _ _ _ _ _ _ _ _ _ _ _ c.join_mut-written.ensures.1.met.1 (search rules) (search rules)
