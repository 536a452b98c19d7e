use Rattle.r9_clients.specs.textfile.Input.{input_of, limit}
use Rattle.r9_clients.proofs.textfile.Limit.{first_bytes}
use Rattle.r9_serve.proofs.serve.Refusing.{was_bad}
use Rattle.r9_serve.proofs.serve.Texts.{text_shown}
use Rattle.r9_serve.proofs.serve.text.shown.Goals as goal

pub returns-in-Ok-clause-record : goal.returns-in-Ok-clause-record
returns-in-Ok-clause-record g c = text_shown c.args.columns c.args.rows _ _ _ _ c.show.result c.in-Ok.ensures.read c.as_slice.ensures c.show.ensures.record

pub returns-in-Ok-clause-bad : goal.returns-in-Ok-clause-bad
returns-in-Ok-clause-bad g c = λ place is. was_bad input_of limit first_bytes _ _ _ _ place c.in-Ok.ensures.read c.as_slice.ensures (c.show.ensures.bad place is)
