use Rattle.std.proofs.Common.{◌≡◌, ◌*◌, take, drop}
use Rattle.model_text.specs.text.Hex.{unhex}
use Rattle.r9_text.proofs.HexLoop.{with_front}
use Rattle.r9_text.proofs.hex.write_bytes.Given as goal

abbrev pub invariant-pairs : goal.invariant-pairs
invariant-pairs l = with_front (take l.i l.bytes) (unhex (drop (2 * l.i) l.digits)) ≡ unhex l.digits
