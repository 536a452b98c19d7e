use Rattle.std.proofs.Common.{ℕ, Option, subst, ◌∙◌}
use Rattle.r9_mem.specs.Kept.{AreKept}
use Rattle.r9_mem.proofs.single.Through.moved_bits.Goals as goal

pub returns-in-Some : goal.returns-in-Some
returns-in-Some c dst src chan op m is s d =
    let self = c.args.self.now in
    subst (λ (kept : Option ℕ). AreKept kept self.dst self.src) c.in-Some.is self.are_kept s ∙ is.moved c.if-self.true s d
