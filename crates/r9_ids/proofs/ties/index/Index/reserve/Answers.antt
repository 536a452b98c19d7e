use Rattle.r9_ids.proofs.ties.Names.{named-reordered}
use Rattle.r9_ids.proofs.ties.index.Index.reserve.Goals as goal

pub returns-in_err-reserve_text-clause-names : goal.returns-in_err-reserve_text-clause-names
returns-in_err-reserve_text-clause-names c = named-reordered c.args.self.now.names c.reserve-4.new.self c.reserve-4.ensures.entries.2

pub returns-clause-names : goal.returns-clause-names
returns-clause-names c = named-reordered c.args.self.now.names c.reserve-4.new.self c.reserve-4.ensures.entries.2
