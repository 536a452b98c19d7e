-- Orders leave connections as they are.
use Rattle.model_draw.proofs.draw.Keeping.{carried-clients}
use Rattle.model_draw.proofs.draw.orders_keep_connections.Goals as goal

pub returns : goal.returns
returns c = λ world orders none. carried-clients orders world none
