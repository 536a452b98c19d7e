-- What the bytes of a message write to.
use Rattle.std.proofs.Common.{◌≡◌, ℕ, List, ap}
use Rattle.model_world.specs.Session.{Session}
use Rattle.model_world.specs.Answer.{Taking, taking}
use Rattle.model_world.specs.Sleeping.{written_at, written_in}

pub written_by : (session : Session) (bytes : List ℕ) (how : Taking) → taking session bytes ≡ how → written_at session bytes ≡ written_in session bytes how
unfolding written_at
written_by session bytes how is = ap (written_in session bytes) is
