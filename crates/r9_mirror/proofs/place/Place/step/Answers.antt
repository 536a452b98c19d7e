use Rattle.std.proofs.Common.{arith}
use Rattle.r9_mirror.proofs.Steps.{ends}
use Rattle.r9_mirror.proofs.place.Place.step.Goals as goal

pub returns-then-self-text-clause-tells : goal.returns-then-self-text-clause-tells
returns-then-self-text-clause-tells c = λ picture outcome l.
    ends c.args.chan c.args.text.now c.args.self picture outcome (omega (arith, c.if-self-gt0.false)) c.if-self-text.true l
