use Rattle.std.proofs.Common.{◌≡◌, ◌∙◌, None, Some, get_or}
use Rattle.r9_locate.proofs.numbered.Table.{key_read, look_removed, table_removed}
use Rattle.r9_locate.proofs.numbered.Numbered.remove.Goals as goal

pub invariant_of-self : goal.invariant_of-self
invariant_of-self g c = record {
  table =
      let keys = c.args.self.now.keys in
      let is : get_or keys.items c.args.number None ≡ Some c.in-Some.key = key_read c.args.self.now.values keys.items c.args.number c.index.result.now c.requires c.index.ensures ∙ c.in-Some.is in
      table_removed c.args.self.now.values c.remove.new.self keys.items c.args.number c.in-Some.key c.args.self.now.table is c.remove.ensures.updates;
}

pub returns-clause-removed : goal.returns-clause-removed
returns-clause-removed g c =
    let keys = c.args.self.now.keys in
    let is : get_or keys.items c.args.number None ≡ Some c.in-Some.key = key_read c.args.self.now.values keys.items c.args.number c.index.result.now c.requires c.index.ensures ∙ c.in-Some.is in
    look_removed c.args.self.now.values c.remove.new.self keys.items c.args.number c.in-Some.key c.args.self.now.table is c.remove.ensures.updates
