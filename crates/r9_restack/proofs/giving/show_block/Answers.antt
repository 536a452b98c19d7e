use Rattle.std.proofs.Common.{◌∙◌, ◌<◌, ◌^◌, length, sym, subst, arith}
use Rattle.r9_plane.specs.Pixels.{along}
use Rattle.r9_locate.specs.locate.Forms.{bits_in}
use Rattle.r9_restack.proofs.giving.show_block.Goals as goal

pub write_view-requires-clause-below : goal.write_view-requires-clause-below
write_view-requires-clause-below g c k below =
    let short : k < length c.args.raws.now = omega (arith, below, c.put.auto.raws) in
    subst (λ n. n < 2 ^ bits_in (g.P.Pixels.forms c.args.pixels.now) c.args.p) (sym (c.put.ensures k short)) (c.requires.below (along c.args.at k))

pub returns-clause-at : goal.returns-clause-at
returns-clause-at g c k below = c.write_view.ensures.at k (omega (arith, below, c.put.auto.raws)) ∙ c.put.ensures k below
