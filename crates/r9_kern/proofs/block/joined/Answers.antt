use Rattle.std.proofs.Common.{◌<◌, ◌+◌, ◌*◌, get_or, ◌∙◌, arith}
use Rattle.std.proofs.lemmas.Simd.{Each1-get_or}
use Rattle.r9_kern.proofs.LaneLemmas.{pair_is}
use Rattle.r9_kern.proofs.block.joined.Goals as goal

pub returns-clause-even : goal.returns-clause-even
returns-clause-even c j less =
    let x : get_or c.args.even j 0 < 256 = Each1-get_or (λ x. x < 256) c.args.even j 0 (omega (arith, c.fits-even.0)) c.requires.evens in
    pair_is c.args.even c.args.odd j 0 (2 * j) (omega arith) c.fits-even.0 c.fits-odd.0 less (omega arith) ∙ omega (arith, x)

pub returns-clause-odd : goal.returns-clause-odd
returns-clause-odd c j less =
    let x : get_or c.args.even j 0 < 256 = Each1-get_or (λ x. x < 256) c.args.even j 0 (omega (arith, c.fits-even.0)) c.requires.evens in
    let y : get_or c.args.odd j 0 < 256 = Each1-get_or (λ x. x < 256) c.args.odd j 0 (omega (arith, c.fits-odd.0)) c.requires.odds in
    pair_is c.args.even c.args.odd j 1 (2 * j + 1) (omega arith) c.fits-even.0 c.fits-odd.0 less (omega arith) ∙ omega (arith, x, y)
