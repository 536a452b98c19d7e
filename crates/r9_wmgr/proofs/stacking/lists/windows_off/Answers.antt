use Rattle.std.proofs.Common.{◌∙◌, ◌==◌, filter, reverse, ap, rules, tests}
use Rattle.std.proofs.lemmas.Fn.{filter_same}
use Rattle.r9_geom.specs.Geometry.{is_empty, meet}
use Rattle.r9_event.specs.declared.window.Window.{Window}
use Rattle.r9_wmgr.proofs.stacking.lists.windows_off.Goals as goal

pub returns : goal.returns
returns c =
    c.reverse.ensures.items
    ∙ ap reverse
    (filter_same _ (λ (w : Window). is_empty (meet w.r c.args.r.now)) _ (λ x b q k. search (rules, tests)) _ _ c.retain.ensures.filtered
    ∙ ap (filter (λ (w : Window). is_empty (meet w.r c.args.r.now))) c.in_ok-off.ensures)
