use Rattle.std.proofs.Common.{◌==◌, ◌∙◌, ap, rules, tests}
use Rattle.std.specs.Prelude.{not}
use Rattle.std.specs.List.{filter}
use Rattle.std.proofs.lemmas.Fn.{filter_same}
use Rattle.model_client.specs.declared.desk.Pane.{Pane}
use Rattle.r9_menu.proofs.panes.without.Goals as goal

pub returns : goal.returns
returns c =
    filter_same _ (λ (e : Pane). not (e.number == c.args.number)) _ (λ x b q k. search (rules, tests)) _ _ c.retain.ensures.filtered
    ∙ ap (filter (λ (e : Pane). not (e.number == c.args.number))) c.in_ok-left.ensures.items
