use Rattle.r9_cons.proofs.LineLaws.{cut-push}
use Rattle.r9_cons.proofs.line.Line.push.Goals as goal

pub returns-clause-ok : goal.returns-clause-ok
returns-clause-ok c =
    rw (c.in_ok-extend_from_slice.ensures.items, c.reserve.ensures.items, c.in_ok-push.ensures.items, ← c.self.view_is)
    (cut-push c.self.inside.lens.items c.self.inside.bytes.items c.args.key.now c.self.invariant)
