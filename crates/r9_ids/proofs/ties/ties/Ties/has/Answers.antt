use Rattle.std.proofs.Common.{ap, ◌∙◌}
use Rattle.std.specs.Prelude.{◌==◌, nat_eq, is_some}
use Rattle.std.specs.List.{list_any}
use Rattle.std.specs.HashMap.{get}
use Rattle.model_draw_parts.specs.declared.images.Tie.{Tie}
use Rattle.r9_ids.specs.ties.Kept.{Tied, gathered}
use Rattle.r9_ids.proofs.ties.Keeping.{any-found}
use Rattle.r9_ids.proofs.ties.ties.Ties.has.Goals as goal

pub returns : goal.returns
returns c =
    c.contains_key.ensures ∙ ap is_some (c.self.invariant.by_number c.args.number)
    ∙ any-found (λ (t : Tie). t.number == c.args.number) (gathered (get nat_eq c.self.inside.index.store) c.self.inside.index.order.rows)
    ∙ ap (list_any (λ (t : Tie). t.number == c.args.number)) (ap (λ (v : Tied). v.ties) c.self.view_is)
