use Rattle.std.proofs.Common.{◌≡◌, ◌*◌, ◌++◌, take, drop}
use Rattle.model_text.specs.text.Hex.{hex}
use Rattle.r9_text.proofs.hex.write_digits.Given as goal

abbrev pub invariant-bytes : goal.invariant-bytes
invariant-bytes l = take (2 * l.i) l.digits ++ hex (drop l.i l.bytes) ≡ hex l.bytes
