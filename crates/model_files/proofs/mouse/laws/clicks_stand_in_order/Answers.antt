use Rattle.model_files.proofs.mouse.QueueLaws.{few, latest, last}
use Rattle.model_files.proofs.mouse.laws.clicks_stand_in_order.Goals as goal

pub returns-clause-few : goal.returns-clause-few
returns-clause-few c = few

pub returns-clause-latest : goal.returns-clause-latest
returns-clause-latest c = latest

pub returns-clause-last : goal.returns-clause-last
returns-clause-last c = last
