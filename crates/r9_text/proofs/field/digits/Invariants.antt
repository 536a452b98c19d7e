use Rattle.r9_text.proofs.DigitLoop.{IsSoFar}
use Rattle.r9_text.proofs.field.digits.Given as goal

abbrev pub invariant-loop-digit : goal.invariant-loop-digit
invariant-loop-digit l = IsSoFar l.word l.digit-index l.value
