use Rattle.r9_files.proofs.pane.Few.{few_told}
use Rattle.r9_files.proofs.pane.pane.Pane.read_console.Goals as goal

pub returns-clause-short : goal.returns-clause-short
returns-clause-short c = few_told c.args.count c.self.inside.console c.read.result c.read.ensures.gives
