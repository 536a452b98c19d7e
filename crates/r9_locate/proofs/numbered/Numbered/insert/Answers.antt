use Rattle.std.proofs.Common.{◌≡◌, length, arith}
use Rattle.r9_locate.proofs.numbered.Table.{look_again, look_next, table_again, table_next}
use Rattle.r9_locate.proofs.numbered.Numbered.insert.Goals as goal

pub invariant_of-self : goal.invariant_of-self
invariant_of-self g c = record {
  table =
      let keys = c.args.self.now.keys in
      table_again c.args.self.now.values c.insert_reserved-key.new.self keys.items c.args.number c.insert_reserved-key.result c.args.value c.args.self.now.table
      c.insert_reserved-key.ensures.was_vacant c.insert_reserved-key.ensures.updates (omega (arith, c.if-at-len.true, c.len.ensures, keys.ok.0));
}

pub invariant_of-self-else-at-len : goal.invariant_of-self-else-at-len
invariant_of-self-else-at-len g c = record {
  table =
      let keys = c.args.self.now.keys in
      rw c.push_reserved.ensures.items
      (table_next c.args.self.now.values c.insert_reserved-key.new.self keys.items c.insert_reserved-key.result c.args.value c.args.self.now.table
      c.insert_reserved-key.ensures.was_vacant c.insert_reserved-key.ensures.updates (omega (arith, c.if-at-len.false, c.len.ensures, keys.ok.0, c.requires.room.next, c.requires.room.most)));
}

pub returns-then-at-len-clause-put : goal.returns-then-at-len-clause-put
returns-then-at-len-clause-put g c =
    let keys = c.args.self.now.keys in
    look_again c.args.self.now.values c.insert_reserved-key.new.self keys.items c.args.number c.insert_reserved-key.result c.args.value c.args.self.now.table
    c.insert_reserved-key.ensures.was_vacant c.insert_reserved-key.ensures.updates (omega (arith, c.if-at-len.true, c.len.ensures, keys.ok.0))

pub returns-else-at-len-clause-put : goal.returns-else-at-len-clause-put
returns-else-at-len-clause-put g c =
    let keys = c.args.self.now.keys in
    let next : c.args.number ≡ length keys.items = omega (arith, c.if-at-len.false, c.len.ensures, keys.ok.0, c.requires.room.next) in
    rw c.push_reserved.ensures.items
    (look_next c.args.self.now.values c.insert_reserved-key.new.self keys.items c.args.number c.insert_reserved-key.result c.args.value c.args.self.now.table
    c.insert_reserved-key.ensures.was_vacant c.insert_reserved-key.ensures.updates next)
