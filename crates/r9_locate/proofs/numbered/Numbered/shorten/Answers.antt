use Rattle.std.proofs.Common.{◌∙◌, length, ap, arith}
use Rattle.std.proofs.lemmas.List.{length-take}
use Rattle.r9_locate.proofs.numbered.Table.{look_shorter, table_shorter}
use Rattle.r9_locate.proofs.numbered.Numbered.shorten.Goals as goal

pub invariant_of-self : goal.invariant_of-self
invariant_of-self g c = record {
  table = rw c.truncate.ensures.items (table_shorter c.args.self.now.values c.args.self.now.keys.items c.args.count c.args.self.now.table);
}

pub returns-clause-kept : goal.returns-clause-kept
returns-clause-kept g c = rw c.truncate.ensures.items (look_shorter c.args.self.now.values c.args.self.now.keys.items c.args.count c.requires)

pub returns-clause-count : goal.returns-clause-count
returns-clause-count g c =
    let long = length-take c.args.count c.args.self.now.keys.items in
    let same = ap length c.truncate.ensures.items in
    omega (arith, long, same)
