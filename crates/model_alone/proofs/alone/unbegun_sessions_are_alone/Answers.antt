use Rattle.model_alone.proofs.alone.Unbegun.{unbegun_alone, unbegun_told}
use Rattle.model_alone.proofs.alone.unbegun_sessions_are_alone.Goals as goal

pub returns-clause-alone : goal.returns-clause-alone
returns-clause-alone c = unbegun_alone

pub returns-clause-told : goal.returns-clause-told
returns-clause-told c = unbegun_told
