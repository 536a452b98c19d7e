use Rattle.std.proofs.Common.{◌≡◌, Bool, true, false, [], find, ap, sym, ◌∙◌}
use Rattle.std.specs.Prelude.{◌==◌, ◌&&◌, filter, nat_eq}
use Rattle.std.specs.HashMap.{get}
use Rattle.model_draw_parts.specs.declared.images.Tie.{Tie}
use Rattle.model_draw_parts.specs.images.Release.{is_tied_by}
use Rattle.r9_ids.specs.declared.sorted.key.Key.{Key}
use Rattle.r9_ids.specs.sorted.Order.{key}
use Rattle.r9_ids.proofs.sorted.Laws.{group-none, group-past, found-first, pair-group}
use Rattle.r9_ids.specs.declared.ties.rows.Owned.{Owned}
use Rattle.r9_ids.specs.ties.Rows.{owned_key}
use Rattle.r9_ids.specs.ties.Kept.{Tied, gathered, named}
use Rattle.r9_ids.proofs.ties.Keeping.{group-absent, owner-found, some-that, both-true, left-false, right-false, test-true, test-false}
use Rattle.r9_ids.proofs.ties.ties.Ties.first_of_id.Goals as goal
use Rattle.r9_ids.proofs.ties.ties.Ties.first_of_id.Goals.{else-row-client-via-then-row-client+else-row-id, else-row-client-via-else-row-client}

pub returns-in_err-row-clause-first : goal.returns-in_err-row-clause-first
returns-in_err-row-clause-first c =
    let of : Key → Bool = (λ k. (k.first == c.args.client) && (k.second == c.args.id)) in
    let none : filter (is_tied_by c.args.client c.args.id) (gathered (get nat_eq c.self.inside.index.store) c.self.inside.index.order.rows) ≡ [] =
    group-absent of (gathered (get nat_eq c.self.inside.index.store) c.self.inside.index.order.rows) c.self.inside.index.order.rows c.self.inside.index.owners.rows (get nat_eq c.self.inside.index.store) (named c.self.inside.index.names) c.self.inside.next c.self.invariant (group-none owned_key of (key c.args.client c.args.id 0) (pair-group c.args.client c.args.id) c.self.inside.index.owners.rows (sym c.first_from.ensures.found ∙ c.in_err-row.was)) in
    rw c.from_residual.ensures (ap (filter (is_tied_by c.args.client c.args.id)) (sym (ap (λ (v : Tied). v.ties) c.self.view_is)) ∙ none)

pub returns-then-row-id-clause-first : goal.returns-then-row-id-clause-first
returns-then-row-id-clause-first c =
    let found = owner-found (gathered (get nat_eq c.self.inside.index.store) c.self.inside.index.order.rows) c.self.inside.index.order.rows c.self.inside.index.owners.rows (get nat_eq c.self.inside.index.store) (named c.self.inside.index.names) c.self.inside.next c.self.invariant c.in_ok-row.row (found-first owned_key (key c.args.client c.args.id 0) c.self.inside.index.owners.rows c.in_ok-row.row c.first_from.ensures.order (sym c.first_from.ensures.found ∙ c.in_ok-row.was)) in
    let there = ap (find (λ (e : Tie). e.number == c.in_ok-row.row.number)) (sym (ap (λ (v : Tied). v.ties) c.self.view_is)) ∙ found.1 in
    some-that (find (λ (e : Tie). e.number == c.in_ok-row.row.number) c.args.self.now.ties) (λ t. (is_tied_by c.args.client c.args.id) t ≡ true) found.0 there (both-true _ _ (test-true found.0.client c.args.client (ap (λ (r : Owned). r.client) found.2 ∙ c.if-row-client.true)) (test-true found.0.id c.args.id (ap (λ (r : Owned). r.id) found.2 ∙ c.if-row-id.true)))

pub returns-else-row-client-clause-first : goal.returns-else-row-client-clause-first
returns-else-row-client-clause-first c =
    let of : Key → Bool = (λ k. (k.first == c.args.client) && (k.second == c.args.id)) in
    let miss : of (owned_key c.in_ok-row.row) ≡ false = elim c.else-row-client.branch [
      | else-row-client-via-then-row-client+else-row-id w ↦ right-false _ _ (test-false c.in_ok-row.row.id c.args.id w.if-row-id.false)
      | else-row-client-via-else-row-client w ↦ left-false _ _ (test-false c.in_ok-row.row.client c.args.client w.if-row-client.false)
    ] in
    ap (filter (is_tied_by c.args.client c.args.id)) (sym (ap (λ (v : Tied). v.ties) c.self.view_is))
    ∙ group-absent of (gathered (get nat_eq c.self.inside.index.store) c.self.inside.index.order.rows) c.self.inside.index.order.rows c.self.inside.index.owners.rows (get nat_eq c.self.inside.index.store) (named c.self.inside.index.names) c.self.inside.next c.self.invariant
    (group-past owned_key of (key c.args.client c.args.id 0) (pair-group c.args.client c.args.id) c.self.inside.index.owners.rows c.in_ok-row.row c.first_from.ensures.order (sym c.first_from.ensures.found ∙ c.in_ok-row.was) miss)
