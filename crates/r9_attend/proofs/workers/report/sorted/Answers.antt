use Rattle.std.proofs.Common.{rules}
use Rattle.std.proofs.lemmas.List.Sorted.{IsNonDecreasingBy-from_sort_by_key}
use Rattle.r9_attend.specs.declared.workers.lines.Unplain.{Unplain}
use Rattle.r9_attend.proofs.workers.report.sorted.Goals as goal

pub returns-clause-ascending : goal.returns-clause-ascending
returns-clause-ascending c = IsNonDecreasingBy-from_sort_by_key (λ (ends : Unplain). ends.session) _ c.sort_unstable_by_key.ensures.sorted (λ a r q k. search rules)
