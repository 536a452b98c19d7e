use Rattle.std.proofs.Common.{rules, ◌==◌, ◌∙◌, ap, ℕ, not}
use Rattle.std.specs.List.{filter}
use Rattle.std.proofs.lemmas.Fn.{filter_same}
use Rattle.r9_tags.proofs.waiting.Waiting.flush.Goals as goal

pub returns-clause-rest : goal.returns-clause-rest
returns-clause-rest g c =
    filter_same _ (λ (read : ℕ × g.row.W.Denot). not (read.0 == c.args.tag)) _ (λ x b f' h. search rules) _ _ c.retain.ensures.filtered
    ∙ ap (filter (λ (read : ℕ × g.row.W.Denot). not (read.0 == c.args.tag))) c.self.view_is
