use Rattle.std.proofs.Common.{rules, ◌≡◌, ◌∙◌, Some, ap}
use Rattle.std.specs.Prelude.{option_and_then}
use Rattle.r9_pixels.specs.declared.own.Own.{Own}
use Rattle.r9_pixels.specs.declared.own.Own.TheVariants.{Whole}
use Rattle.r9_pixels.specs.Owns.{plane_in}
use Rattle.r9_pixels.proofs.whole.plane_of.Goals as goal

pub returns : goal.returns
returns c =
    let kept : c.in-Some-Whole.field-0 ≡ Whole c.in-Some-Whole.watched = search rules in
    ap (option_and_then plane_in) (c.in-Some-Whole.is ∙ ap (λ (own : Own). Some own) kept)
