use Rattle.std.proofs.Common.{Some, ap, ◌∙◌, arith}
use Rattle.slab.proofs.SlabLemmas.{Updates-with_value}
use Rattle.model_draw_parts.specs.images.Book.{with_screen}
use Rattle.r9_ids.specs.screens.Screens.{Numbered}
use Rattle.r9_ids.proofs.screens.Table.{found, put-again, put-known, put-next, table-again, table-next}
use Rattle.r9_ids.proofs.screens.Screens.put.Goals as goal

pub returns-in-Some-clause-put : goal.returns-in-Some-clause-put
returns-in-Some-clause-put c =
    let is = found c.self.inside.keys.items c.deref.result.now c.args.number c.key_of.result (Some c.in-Some.key) c.deref.ensures.value c.key_of.ensures c.in-Some.is in
    put-known c.self.inside.screens _ c.self.inside.keys.items c.args.number c.in-Some.key c.args.screen c.self.invariant is
    (Updates-with_value c.self.inside.screens c.in-Some.key c.args.screen (c.self.invariant.there c.args.number c.in-Some.key is))
    ∙ ap (λ (v : Numbered). with_screen v.screens c.args.number c.args.screen) c.self.view_is

pub invariant_of-self-then-at-len : goal.invariant_of-self-then-at-len
invariant_of-self-then-at-len c =
    table-again c.self.inside.screens c.insert_reserved-key.new.self c.self.inside.keys.items c.args.number c.insert_reserved-key.result c.args.screen c.self.invariant
    c.insert_reserved-key.ensures.was_vacant c.insert_reserved-key.ensures.updates (omega (arith, c.if-at-len.true, c.len.ensures, c.self.inside.keys.ok.0))

pub returns-then-at-len-clause-put : goal.returns-then-at-len-clause-put
returns-then-at-len-clause-put c =
    put-again c.self.inside.screens c.insert_reserved-key.new.self c.self.inside.keys.items c.args.number c.insert_reserved-key.result c.args.screen c.self.invariant
    c.insert_reserved-key.ensures.was_vacant c.insert_reserved-key.ensures.updates (omega (arith, c.if-at-len.true, c.len.ensures, c.self.inside.keys.ok.0))
    ∙ ap (λ (v : Numbered). with_screen v.screens c.args.number c.args.screen) c.self.view_is

pub invariant_of-self-2 : goal.invariant_of-self-2
invariant_of-self-2 c =
    rw c.push_reserved.ensures.items
    (table-next c.self.inside.screens c.insert_reserved-key.new.self c.self.inside.keys.items c.insert_reserved-key.result c.args.screen c.self.invariant
    c.insert_reserved-key.ensures.was_vacant c.insert_reserved-key.ensures.updates
    (let room = ap (λ (v : Numbered). v.room) c.self.view_is in omega (arith, c.requires, room, c.self.inside.keys.ok.0)))

pub returns-clause-put : goal.returns-clause-put
returns-clause-put c =
    rw c.push_reserved.ensures.items
    (put-next c.self.inside.screens c.insert_reserved-key.new.self c.self.inside.keys.items c.args.number c.insert_reserved-key.result c.args.screen c.self.invariant
    c.insert_reserved-key.ensures.was_vacant c.insert_reserved-key.ensures.updates (omega (arith, c.if-at-len.false, c.len.ensures, c.self.inside.keys.ok.0))
    ∙ ap (λ (v : Numbered). with_screen v.screens c.args.number c.args.screen) c.self.view_is)
