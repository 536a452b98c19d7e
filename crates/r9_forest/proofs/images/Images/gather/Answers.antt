use Rattle.std.proofs.Common.{◌∙◌, sym}
use Rattle.r9_forest.proofs.images.Images.gather.Goals as goal

pub returns-in-Some-clause-gathered : goal.returns-in-Some-clause-gathered
returns-in-Some-clause-gathered c p h = c.gather_plain.ensures.gathered p h ∙ sym (c.in-Some.ensures.inside p h)
