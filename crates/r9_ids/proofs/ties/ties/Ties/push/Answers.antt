use Rattle.std.proofs.Common.{◌≡◌, ℕ, ◌++◌, ◌∷◌, [], None, List, find, ap, ◌∙◌}
use Rattle.std.specs.Prelude.{nat_eq}
use Rattle.std.specs.Option.{option_map}
use Rattle.std.specs.Str.{bytes_eq}
use Rattle.std.specs.HashMap.{get}
use Rattle.model_draw_parts.specs.declared.images.Tie.{Tie}
use Rattle.r9_ids.specs.sorted.Order.{key}
use Rattle.r9_ids.specs.sorted.Rows.{has_key}
use Rattle.r9_ids.specs.ties.Rows.{number_key, owned_key, owned}
use Rattle.r9_ids.specs.ties.Kept.{Tied, gathered, named}
use Rattle.r9_ids.proofs.ties.Keeping.{no-row, no-owner, same-holds, pushed, regather, rehold}
use Rattle.r9_ids.proofs.ties.ties.Ties.push.Goals as goal

pub add-requires-clause-order_absent : goal.add-requires-clause-order_absent
add-requires-clause-order_absent c =
    ap (find (has_key number_key (key c.self.inside.next 0 0))) (c.reserve.ensures.order ∙ c.self.invariant.in_order) ∙ no-row c.self.inside.next (gathered (get nat_eq c.self.inside.index.store) c.self.inside.index.order.rows) c.self.invariant.below

pub add-requires-clause-owners_absent : goal.add-requires-clause-owners_absent
add-requires-clause-owners_absent c =
    let t : Tie = record { name = c.args.name.now; number = c.self.inside.next; image = c.args.image; client = c.args.client; id = c.args.id } in
    ap (find (has_key owned_key (owned_key (owned t)))) c.reserve.ensures.owners ∙ c.self.invariant.by_owner (owned_key (owned t)) ∙ ap (option_map owned) (no-owner t (gathered (get nat_eq c.self.inside.index.store) c.self.inside.index.order.rows) c.self.invariant.below)

pub invariant_of-self-2 : goal.invariant_of-self-2
invariant_of-self-2 c =
    let t : Tie = record { name = c.args.name.now; number = c.self.inside.next; image = c.args.image; client = c.args.client; id = c.args.id } in
    let fresh : find (λ e. bytes_eq e.name t.name) (gathered (get nat_eq c.self.inside.index.store) c.self.inside.index.order.rows) ≡ None = ap (find (λ (e : Tie). bytes_eq e.name c.args.name.now)) (ap (λ (v : Tied). v.ties) c.self.view_is) ∙ c.requires in
    let before =
    same-holds (gathered (get nat_eq c.self.inside.index.store) c.self.inside.index.order.rows) c.self.inside.index.order.rows c.reserve.new.self.order.rows c.self.inside.index.owners.rows c.reserve.new.self.owners.rows (get nat_eq c.self.inside.index.store) (get nat_eq c.reserve.new.self.store)
    (named c.self.inside.index.names) (named c.reserve.new.self.names) c.self.inside.next c.self.invariant c.reserve.ensures.order c.reserve.ensures.owners c.reserve.ensures.store c.reserve.ensures.names in
    let after =
    pushed t (gathered (get nat_eq c.self.inside.index.store) c.self.inside.index.order.rows) c.reserve.new.self.order.rows c.add.new.self.order.rows c.reserve.new.self.owners.rows c.add.new.self.owners.rows (get nat_eq c.reserve.new.self.store) (get nat_eq c.add.new.self.store)
    (named c.reserve.new.self.names) (named c.add.new.self.names) before fresh c.add.ensures.order c.add.ensures.owners c.add.ensures.store c.add.ensures.names in
    rehold _ _ _ _ _ _ after

pub returns-clause-made : goal.returns-clause-made
returns-clause-made c =
    let t : Tie = record { name = c.args.name.now; number = c.self.inside.next; image = c.args.image; client = c.args.client; id = c.args.id } in
    let fresh : find (λ e. bytes_eq e.name t.name) (gathered (get nat_eq c.self.inside.index.store) c.self.inside.index.order.rows) ≡ None = ap (find (λ (e : Tie). bytes_eq e.name c.args.name.now)) (ap (λ (v : Tied). v.ties) c.self.view_is) ∙ c.requires in
    let before =
    same-holds (gathered (get nat_eq c.self.inside.index.store) c.self.inside.index.order.rows) c.self.inside.index.order.rows c.reserve.new.self.order.rows c.self.inside.index.owners.rows c.reserve.new.self.owners.rows (get nat_eq c.self.inside.index.store) (get nat_eq c.reserve.new.self.store)
    (named c.self.inside.index.names) (named c.reserve.new.self.names) c.self.inside.next c.self.invariant c.reserve.ensures.order c.reserve.ensures.owners c.reserve.ensures.store c.reserve.ensures.names in
    let after =
    pushed t (gathered (get nat_eq c.self.inside.index.store) c.self.inside.index.order.rows) c.reserve.new.self.order.rows c.add.new.self.order.rows c.reserve.new.self.owners.rows c.add.new.self.owners.rows (get nat_eq c.reserve.new.self.store) (get nat_eq c.add.new.self.store)
    (named c.reserve.new.self.names) (named c.add.new.self.names) before fresh c.add.ensures.order c.add.ensures.owners c.add.ensures.store c.add.ensures.names in
    regather _ _ _ _ _ _ after ∙ ap (λ (ties : List Tie). ties ++ t ∷ []) (ap (λ (v : Tied). v.ties) c.self.view_is)
    ∙ ap (λ (n : ℕ). c.args.self.now.ties ++ record { name = c.args.name.now; number = n; image = c.args.image; client = c.args.client; id = c.args.id } ∷ []) (ap (λ (v : Tied). v.next) c.self.view_is)
