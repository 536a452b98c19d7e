use Rattle.std.proofs.Common.{arith}
use Rattle.r9_images.proofs.uses.Parts.{parts}
use Rattle.r9_images.proofs.uses.uses.Uses.next_screen.Goals as goal

pub returns-in-None-2-clause-ready : goal.returns-in-None-2-clause-ready
returns-in-None-2-clause-ready c = λ h. absurd (let p = parts c.args.self.now h in omega (arith, p.screens, c.if-len.false, c.len.ensures.most))
