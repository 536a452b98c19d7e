use Rattle.std.proofs.Common.{arith}
use Rattle.r9_geom.proofs.MinusLemmas.{solid_more}
use Rattle.r9_geom.proofs.Parts.with.Goals as goal

pub returns-clause-solid : goal.returns-clause-solid
returns-clause-solid c = solid_more c.args.self.part c.args.self.count c.from.result c.args.r c.from.ensures (omega arith) c.if-is_empty.ensures.exact
