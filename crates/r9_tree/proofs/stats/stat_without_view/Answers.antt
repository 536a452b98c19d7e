use Rattle.std.proofs.Common.{rules, ℕ}
use Rattle.std.specs.Prelude.{Ok}
use Rattle.r9_tree.specs.View.{node_of}
use Rattle.r9_tree.proofs.Named.{all_fit}
use Rattle.r9_tree.proofs.stats.stat_without_view.Goals as goal

pub returns-clause-fits : goal.returns-clause-fits
returns-clause-fits c = all_fit {E = ℕ} (Ok c.in_ok-stat.stat) c.in-Some.name (node_of c.args.node.now) (search rules) c.in_ok-stat.ensures
