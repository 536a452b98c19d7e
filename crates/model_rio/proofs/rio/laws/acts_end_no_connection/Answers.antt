-- No act ends a connection.
use Rattle.model_rio.proofs.rio.Orders.{acts_keep_connections}
use Rattle.model_rio.proofs.rio.laws.acts_end_no_connection.Goals as goal

pub returns : goal.returns
returns c = acts_keep_connections
