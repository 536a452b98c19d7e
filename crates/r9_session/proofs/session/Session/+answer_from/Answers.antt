use Rattle.std.proofs.Common.{length, refl, ap, arith}
use Rattle.model_world.specs.Session.{Session}
use Rattle.r9_session.proofs.Awaited.{first_end}
use Rattle.r9_session.proofs.session.Session.+answer_from.Goals as goal

pub returns-then-place-len : goal.returns-then-place-len
returns-then-place-len g l c = (
  first_end (g.O.Outside.outside c.args.number) c.args.self.now (g.O.Outside.state c.args.outside.now) c.args.place (omega (arith, c.if-place-len.true, c.len.ensures.value, ap (λ (s : Session). length s.waiting) c.self.view_is)),
  refl,
  refl,
)
