use Rattle.r9_restack.proofs.Stacked.{tops_same}
use Rattle.r9_restack.proofs.stacks.stacks_within.Goals as goal

pub returns-clause-same : goal.returns-clause-same
returns-clause-same c z inside =
    tops_same _ c.args.stacks.now z (c.within.ensures.same z inside) (c.within-2.ensures.same z inside) (c.within-3.ensures.same z inside) (c.within-4.ensures.same z inside)

pub returns-clause-apart : goal.returns-clause-apart
returns-clause-apart c w all = c.within.ensures.apart w all
