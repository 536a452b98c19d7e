use Rattle.std.proofs.Common.{◌∙◌, rules, tests}
use Rattle.std.proofs.lemmas.Iterator.{YieldsList-from_slice}
use Rattle.std.proofs.lemmas.Iterator.Search.{find_from_yields_List}
use Rattle.r9_geom.specs.Geometry.{holds}
use Rattle.model_client.specs.declared.desk.Pane.{Pane}
use Rattle.r9_menu.proofs.panes.pane_at.Goals as goal

pub returns : goal.returns
returns c =
    c.copied.ensures ∙ find_from_yields_List (λ (e : Pane). holds e.r (record { x = c.args.at.x; y = c.args.at.y })) _ _ _ c.find.ensures.ran (YieldsList-from_slice c.args.panes.now cc) (λ x b q k. search (rules, tests))
