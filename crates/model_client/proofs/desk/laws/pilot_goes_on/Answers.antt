use Rattle.model_client.proofs.desk.PilotLaws.{texts, table}
use Rattle.model_client.proofs.desk.laws.pilot_goes_on.Goals as goal

pub returns-clause-texts : goal.returns-clause-texts
returns-clause-texts c = texts

pub returns-clause-table : goal.returns-clause-table
returns-clause-table c = table
