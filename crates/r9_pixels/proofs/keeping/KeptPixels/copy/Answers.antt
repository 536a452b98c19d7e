use Rattle.std.proofs.Common.{◌≡◌, subst, arith}
use Rattle.r9_plane.specs.Pixels.{along}
use Rattle.r9_pixels.specs.Carried.{IsCarried}
use Rattle.r9_pixels.proofs.Copied.{carried_none}
use Rattle.r9_pixels.proofs.Owning.{own_below}
use Rattle.r9_pixels.proofs.keeping.KeptPixels.copy.Goals as goal

pub extent-requires : goal.extent-requires
extent-requires g c =
    let self = c.args.self.now in
    omega (arith, own_below self.owns.items self.cells c.args.to (along c.args.p 0) (c.requires.has 0 (omega (arith, c.if-n-eq0.false))), self.owns.ok.0)

pub returns-then-n-eq0-clause-carried : goal.returns-then-n-eq0-clause-carried
returns-then-n-eq0-clause-carried g c =
    let none : 0 ≡ c.args.n = omega (arith, c.if-n-eq0.true) in
    let self = c.args.self.now in
    subst (IsCarried self self c.args.from c.args.at c.args.to c.args.p) none (carried_none self c.args.from c.args.at c.args.to c.args.p)
