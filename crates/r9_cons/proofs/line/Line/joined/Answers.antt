use Rattle.std.proofs.Common.{refl}
use Rattle.r9_cons.proofs.LineLaws.{concat-cut}
use Rattle.r9_cons.proofs.line.Line.joined.Goals as goal

pub returns : goal.returns
returns c =
    let joined = concat-cut c.self.inside.lens.items c.self.inside.bytes.items c.self.invariant in
    rw (← c.self.view_is, c.into.ensures, c.in_ok-extend_from_slice-2.ensures.items, c.in_ok-extend_from_slice.ensures.items, c.in_ok-bytes.ensures.items, c.deref.ensures.value, joined) refl
