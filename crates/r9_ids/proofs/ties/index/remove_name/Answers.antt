use Rattle.std.proofs.Common.{None}
use Rattle.r9_ids.proofs.ties.Names.{named-updates}
use Rattle.r9_ids.proofs.ties.index.remove_name.Goals as goal

pub returns-in-Some-clause-names : goal.returns-in-Some-clause-names
returns-in-Some-clause-names c = named-updates c.args.name.now c.args.names.now c.remove_entry.new.self None c.remove_entry.ensures.updates
