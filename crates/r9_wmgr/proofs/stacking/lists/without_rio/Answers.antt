use Rattle.std.proofs.Common.{◌==◌, rules, tests}
use Rattle.std.specs.Prelude.{not}
use Rattle.std.proofs.lemmas.Fn.{filter_same}
use Rattle.r9_event.specs.declared.window.Rio.{Rio}
use Rattle.r9_wmgr.proofs.stacking.lists.without_rio.Goals as goal

pub returns : goal.returns
returns c =
    filter_same _ (λ (x : Rio). not (x.host == c.args.host)) _ (λ x b q k. search (rules, tests)) _ _ c.retain.ensures.filtered
