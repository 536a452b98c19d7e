use Rattle.r9_tree.specs.View.{node_of}
use Rattle.r9_tree.proofs.Named.{all_fit}
use Rattle.r9_tree.proofs.stats.stat.Goals as goal

pub returns-clause-fits : goal.returns-clause-fits
returns-clause-fits c = all_fit c.stat_named.result c.in_ok-name.name (node_of c.args.node.now) c.in_ok-name.ensures.sound c.stat_named.ensures
