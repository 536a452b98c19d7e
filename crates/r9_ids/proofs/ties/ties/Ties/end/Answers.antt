use Rattle.std.proofs.Common.{ap, ◌∙◌}
use Rattle.std.specs.Prelude.{◌==◌, not, filter, nat_eq}
use Rattle.std.specs.HashMap.{get}
use Rattle.model_draw_parts.specs.declared.images.Tie.{Tie}
use Rattle.r9_ids.specs.ties.Kept.{Tied, gathered, named}
use Rattle.r9_ids.proofs.ties.Keeping.{ended, regather, rehold}
use Rattle.r9_ids.proofs.ties.ties.Ties.end.Goals as goal

pub invariant_of-self : goal.invariant_of-self
invariant_of-self c =
    rehold _ _ _ _ _ _
    (ended c.args.number (gathered (get nat_eq c.self.inside.index.store) c.self.inside.index.order.rows) c.self.inside.index.order.rows c.remove.new.self.order.rows c.self.inside.index.owners.rows c.remove.new.self.owners.rows
    (get nat_eq c.self.inside.index.store) (get nat_eq c.remove.new.self.store) (named c.self.inside.index.names) (named c.remove.new.self.names) c.self.inside.next
    c.self.invariant c.remove.ensures.order c.remove.ensures.owners c.remove.ensures.store (λ same q. ap (λ names. named names q) same) c.remove.ensures.names)

pub returns-clause-ties : goal.returns-clause-ties
returns-clause-ties c =
    regather _ _ _ _ _ _
    (ended c.args.number (gathered (get nat_eq c.self.inside.index.store) c.self.inside.index.order.rows) c.self.inside.index.order.rows c.remove.new.self.order.rows c.self.inside.index.owners.rows c.remove.new.self.owners.rows
    (get nat_eq c.self.inside.index.store) (get nat_eq c.remove.new.self.store) (named c.self.inside.index.names) (named c.remove.new.self.names) c.self.inside.next
    c.self.invariant c.remove.ensures.order c.remove.ensures.owners c.remove.ensures.store (λ same q. ap (λ names. named names q) same) c.remove.ensures.names)
    ∙ ap (filter (λ (t : Tie). not (t.number == c.args.number))) (ap (λ (v : Tied). v.ties) c.self.view_is)
