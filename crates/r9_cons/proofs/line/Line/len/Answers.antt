use Rattle.std.proofs.Common.{arith}
use Rattle.r9_cons.proofs.LineLaws.{bytes-cut}
use Rattle.r9_cons.proofs.line.Line.len.Goals as goal

pub returns : goal.returns
returns c =
    let counted = bytes-cut c.self.inside.lens.items c.self.inside.bytes.items c.self.invariant in
    rw (← c.self.view_is) (omega (arith, c.len.ensures, c.self.inside.bytes.ok.0, counted))
