use Rattle.r9_clients.proofs.deskfile.Told.{short_none}
use Rattle.r9_clients.proofs.deskfile.input.first_event.Goals as goal

pub returns-then-bytes-lt-EVENT_LEN-clause-event : goal.returns-then-bytes-lt-EVENT_LEN-clause-event
returns-then-bytes-lt-EVENT_LEN-clause-event c = short_none c.args.bytes.now c.if-bytes-lt-EVENT_LEN.true
