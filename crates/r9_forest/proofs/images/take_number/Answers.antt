use Rattle.std.proofs.Common.{inl, inr, refl, arith}
use Rattle.std.proofs.lemmas.List.{nil_from_length}
use Rattle.r9_forest.proofs.images.take_number.Goals as goal

pub returns-in-Some-clause-number : goal.returns-in-Some-clause-number
returns-in-Some-clause-number c = inl c.in-Some.ensures.items

pub returns-in-None-clause-number : goal.returns-in-None-clause-number
returns-in-None-clause-number c =
    inr (
      nil_from_length c.args.spare.now.items (omega (arith, c.in-None.ensures.cases.0, c.args.spare.now.ok.0)),
      (nil_from_length c.pop.new.self.items (omega (arith, c.in-None.ensures.cases.1, c.pop.new.self.ok.0)), refl),
    )
