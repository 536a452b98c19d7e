use Rattle.r9_put.proofs.put.composing.planes_of.Goals as goal

pub returns-clause-found : goal.returns-clause-found
returns-clause-found c = c.in_ok-found.ensures

pub returns-clause-depth : goal.returns-clause-depth
returns-clause-depth c = c.is_deep.ensures c.if-not-is_deep.false

pub returns-clause-depth_from : goal.returns-clause-depth_from
returns-clause-depth_from c = c.is_deep-2.ensures c.if-not-is_deep-2.false
