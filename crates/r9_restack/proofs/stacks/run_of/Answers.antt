use Rattle.std.proofs.Common.{◌∙◌, Some, ap}
use Rattle.r9_restack.proofs.Stacked.{from_not, from_not_false, tops_bare, tops_covered}
use Rattle.r9_restack.proofs.Steady.{block_fewer}
use Rattle.r9_restack.proofs.stacks.run_of.Goals as goal

pub returns-then-not-front-clause-same : goal.returns-then-not-front-clause-same
returns-then-not-front-clause-same c z inside =
    tops_covered c.args.stacks.now z (c.cover_over-front.ensures.same z inside ∙ from_not c.cover_over-front.result.bare c.if-not-front.true)

pub returns-clause-same : goal.returns-clause-same
returns-clause-same c z inside =
    let q = c.args.q in
    let front = c.cover_over-front.result in
    let before = c.top_over-before.result in
    let after = c.top_of-after.result in
    let first = block_fewer q z after.extent.columns after.extent.rows before.extent.columns before.extent.rows c.top_of-after.ensures.most c.top_of-after.ensures.most_rows inside in
    let second = block_fewer q z before.extent.columns before.extent.rows front.extent.columns front.extent.rows c.top_over-before.ensures.most c.top_over-before.ensures.most_rows first in
    tops_bare c.args.stacks.now z (c.cover_over-front.ensures.same z second ∙ from_not_false c.cover_over-front.result.bare c.if-not-front.false)
    ∙ ap Some (λ j. record { before = c.top_over-before.ensures.same z first j; after = c.top_of-after.ensures.same z inside j })
