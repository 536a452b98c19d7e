use Rattle.std.proofs.Common.{◌≡◌, ◌-◌, length, arith}
use Rattle.r9_cons.proofs.LineLaws.{cut-popped}
use Rattle.r9_cons.proofs.line.Line.erase.Goals as goal

pub returns-in-Some : goal.returns-in-Some
returns-in-Some c =
    let popped = cut-popped c.self.inside.lens.items c.pop.new.self.items c.self.inside.bytes.items c.in-Some.len c.in-Some.ensures.items c.self.invariant in
    let end : c.len.result - c.from.result ≡ length c.self.inside.bytes.items - c.in-Some.len = omega (arith, c.self.inside.bytes.ok.0) in
    rw (← c.self.view_is, c.truncate.ensures.items, end) popped.0
