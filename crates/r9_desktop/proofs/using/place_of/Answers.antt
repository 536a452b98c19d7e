use Rattle.std.proofs.Common.{rules, tests, ℕ, nat_le}
use Rattle.std.proofs.lemmas.Iterator.{YieldsList-from_slice}
use Rattle.std.proofs.lemmas.Iterator.Search.{position_from_yields_List}
use Rattle.model_text.proofs.map.Positions.{place_or_end}
use Rattle.r9_desktop.proofs.using.place_of.Goals as goal

pub returns-clause-place : goal.returns-clause-place
returns-clause-place c =
    place_or_end (λ (m : ℕ). nat_le c.args.n m) c.args.numbers.now c.position.result _
    (position_from_yields_List (λ (m : ℕ). nat_le c.args.n m) _ _ _ c.position.ensures.ran (YieldsList-from_slice c.args.numbers.now cc) (λ x b q k. search (rules, tests)))
    c.unwrap_or.ensures
