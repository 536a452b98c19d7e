use Rattle.std.proofs.Common.{◌==◌, ◌∙◌, ap, rules, tests}
use Rattle.std.specs.Option.{option_map_or}
use Rattle.std.proofs.lemmas.Iterator.{YieldsList-from_slice}
use Rattle.std.proofs.lemmas.Iterator.Search.{find_from_yields_List}
use Rattle.model_forest.specs.declared.Window.{Window}
use Rattle.model_forest.specs.World.{no_rect}
use Rattle.r9_locate.proofs.locate.lists.place_among.Goals as goal

pub returns : goal.returns
returns c =
    c.place_of.ensures
    ∙ ap (λ o. option_map_or (λ (w : Window). w.place) o no_rect) (c.copied-found.ensures ∙ find_from_yields_List (λ (w : Window). w.image == c.args.i) _ _ _ c.find.ensures.ran (YieldsList-from_slice c.args.windows.now cc) (λ x b q k. search (rules, tests)))
