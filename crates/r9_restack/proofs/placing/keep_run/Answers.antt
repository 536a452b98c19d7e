use Rattle.std.proofs.Common.{◌∙◌, ◌<◌, ◌^◌, length, sym, subst, arith}
use Rattle.r9_plane.specs.Pixels.{along}
use Rattle.r9_locate.specs.locate.Forms.{bits_in}
use Rattle.r9_restack.proofs.placing.keep_run.Goals as goal

pub write-requires-clause-below : goal.write-requires-clause-below
write-requires-clause-below g c k below =
    let short : k < length c.args.raws.now = omega (arith, below, c.give.auto.raws) in
    subst (λ n. n < 2 ^ bits_in (g.P.Pixels.forms c.args.pixels.now) c.args.w) (sym (c.give.ensures k short)) (c.requires.below (along c.args.x k))

pub returns-clause-at : goal.returns-clause-at
returns-clause-at g c k below = c.write.ensures.at k (omega (arith, below, c.give.auto.raws)) ∙ c.give.ensures k below
