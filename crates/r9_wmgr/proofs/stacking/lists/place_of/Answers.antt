use Rattle.std.proofs.Common.{rules, tests, nat_lt}
use Rattle.std.proofs.lemmas.Iterator.{YieldsList-from_slice}
use Rattle.std.proofs.lemmas.Iterator.Search.{position_from_yields_List}
use Rattle.r9_event.specs.declared.window.Window.{Window}
use Rattle.model_text.proofs.map.Positions.{place_or_end}
use Rattle.r9_wmgr.proofs.stacking.Loops.{place_within}
use Rattle.r9_wmgr.proofs.stacking.lists.place_of.Goals as goal

pub returns-clause-place : goal.returns-clause-place
returns-clause-place c =
    place_or_end (λ (v : Window). nat_lt c.args.serial v.serial) c.args.windows.now c.position.result _
    (position_from_yields_List (λ (v : Window). nat_lt c.args.serial v.serial) _ _ _ c.position.ensures.ran (YieldsList-from_slice c.args.windows.now cc) (λ x b q k. search (rules, tests)))
    c.unwrap_or.ensures

pub returns-clause-within : goal.returns-clause-within
returns-clause-within c = place_within (λ (v : Window). nat_lt c.args.serial v.serial) c.args.windows.now _ (returns-clause-place c)
