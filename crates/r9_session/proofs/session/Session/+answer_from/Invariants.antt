use Rattle.std.proofs.Common.{length}
use Rattle.std.specs.Prelude.{◌-◌}
use Rattle.r9_session.proofs.session.Session.+answer_from.Given as goal

abbrev pub decreases-answer_from : goal.decreases-answer_from
decreases-answer_from g l = length l.self.now.waiting - l.place
