use Rattle.std.proofs.Common.{ap, sym, ◌∙◌}
use Rattle.std.specs.Prelude.{find, nat_eq}
use Rattle.std.specs.Str.{bytes_eq}
use Rattle.std.specs.HashMap.{get}
use Rattle.model_draw_parts.specs.declared.images.Tie.{Tie}
use Rattle.r9_ids.specs.ties.Kept.{Tied, gathered, named}
use Rattle.r9_ids.proofs.ties.Keeping.{name-found, name-absent}
use Rattle.r9_ids.proofs.ties.ties.Ties.find.Goals as goal

pub returns-in-Some-clause-found : goal.returns-in-Some-clause-found
returns-in-Some-clause-found c =
    c.get-in-Some.ensures.value
    ∙ name-found (gathered (get nat_eq c.self.inside.index.store) c.self.inside.index.order.rows) c.self.inside.index.order.rows c.self.inside.index.owners.rows (get nat_eq c.self.inside.index.store) (named c.self.inside.index.names) c.self.inside.next c.self.invariant c.args.name.now c.in-Some.number.now (sym c.in-Some.ensures.value)
    ∙ ap (find (λ (t : Tie). bytes_eq t.name c.args.name.now)) (ap (λ (v : Tied). v.ties) c.self.view_is)

pub returns-in-None-clause-found : goal.returns-in-None-clause-found
returns-in-None-clause-found c =
    sym (ap (find (λ (t : Tie). bytes_eq t.name c.args.name.now)) (sym (ap (λ (v : Tied). v.ties) c.self.view_is))
    ∙ name-absent (gathered (get nat_eq c.self.inside.index.store) c.self.inside.index.order.rows) c.self.inside.index.order.rows c.self.inside.index.owners.rows (get nat_eq c.self.inside.index.store) (named c.self.inside.index.names) c.self.inside.next c.self.invariant c.args.name.now (sym c.in-None.ensures.value))
