use Rattle.std.proofs.Common.{◌==◌, ◌&&◌, ◌∙◌, rules, tests}
use Rattle.std.proofs.lemmas.Iterator.{YieldsList-from_slice}
use Rattle.std.proofs.lemmas.Iterator.Search.{find_from_yields_List}
use Rattle.r9_event.specs.declared.window.Window.{Window}
use Rattle.r9_wmgr.proofs.stacking.lists.find_numbered.Goals as goal

pub returns : goal.returns
returns c =
    c.copied.ensures ∙ find_from_yields_List (λ (w : Window). (w.host == c.args.host) && (w.number == c.args.number)) _ _ _ c.find.ensures.ran (YieldsList-from_slice c.args.windows.now cc) (λ x b q k. search (rules, tests))
