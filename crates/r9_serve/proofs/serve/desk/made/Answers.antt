use Rattle.r9_clients.specs.deskfile.Events.{events_of, limit}
use Rattle.r9_clients.proofs.deskfile.Limit.{first_bytes}
use Rattle.r9_serve.proofs.serve.Desks.{piloted}
use Rattle.r9_serve.proofs.serve.Refusing.{was_bad}
use Rattle.r9_serve.proofs.serve.desk.made.Goals as goal

pub returns-in-Ok-clause-record : goal.returns-in-Ok-clause-record
returns-in-Ok-clause-record g c = piloted _ _ _ _ c.make.result c.in-Ok.ensures.read c.as_slice.ensures c.make.ensures.record

pub returns-in-Ok-clause-bad : goal.returns-in-Ok-clause-bad
returns-in-Ok-clause-bad g c = λ place is. was_bad events_of limit first_bytes _ _ _ _ place c.in-Ok.ensures.read c.as_slice.ensures (c.make.ensures.bad place is)
