use Rattle.std.proofs.Common.{rules, tests, ℕ}
use Rattle.std.specs.Prelude.{nat_le}
use Rattle.std.proofs.lemmas.Iterator.{YieldsList-from_slice}
use Rattle.std.proofs.lemmas.Iterator.Search.{position_from_yields_List}
use Rattle.model_text.proofs.map.Positions.{place_or_end}
use Rattle.r9_session.proofs.leaving.place_of.Goals as goal

pub returns-clause-place : goal.returns-clause-place
returns-clause-place c =
    place_or_end (λ (other : ℕ). nat_le c.args.number other) c.args.numbers.now c.position.result _
    (position_from_yields_List (λ (other : ℕ). nat_le c.args.number other) _ _ _ c.position.ensures.ran (YieldsList-from_slice c.args.numbers.now cc) (λ x b q k. search (rules, tests)))
    c.unwrap_or.ensures
