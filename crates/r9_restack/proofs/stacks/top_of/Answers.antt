use Rattle.std.proofs.Common.{◌∙◌, sym, ap}
use Rattle.std.specs.Option.{option_or}
use Rattle.model_forest.specs.View.{top_window}
use Rattle.r9_restack.proofs.Stacked.{none_first, some_first, top_two}
use Rattle.r9_restack.proofs.Steady.{block_fewer}
use Rattle.r9_restack.proofs.stacks.top_of.Goals as goal

pub returns-then-is_some-clause-same : goal.returns-then-is_some-clause-same
returns-then-is_some-clause-same c z inside =
    let lower = c.args.lower.now in
    let first = c.top_over-first.result.window in
    top_two c.args.upper.now lower z
    ∙ ap (λ o. option_or o (top_window lower z)) (c.top_over-first.ensures.same z inside)
    ∙ some_first first (top_window lower z) (sym c.if-is_some.ensures)

pub returns-clause-same : goal.returns-clause-same
returns-clause-same c z inside =
    let first = c.top_over-first.result in
    let second = c.top_over.result in
    let wider = block_fewer c.args.q z second.extent.columns second.extent.rows first.extent.columns first.extent.rows c.top_over.ensures.most c.top_over.ensures.most_rows inside in
    top_two c.args.upper.now c.args.lower.now z
    ∙ (λ j. option_or (c.top_over-first.ensures.same z wider j) (c.top_over.ensures.same z inside j))
    ∙ none_first first.window second.window (sym c.if-is_some.ensures)
