use Rattle.std.proofs.Common.{arith}
use Rattle.r9_text.proofs.HexLoop.{nothing_before, goes_on}
use Rattle.r9_text.proofs.hex.write_bytes.Goals as goal

pub pairs-init : goal.pairs-init
pairs-init c = nothing_before _

pub pairs-preserved : goal.pairs-preserved
pairs-preserved c =
    goes_on c.args.digits.now c.pairs.bytes c.pairs.i c.hex_value.result c.hex_value-in-pairs.result (omega (arith, c.requires.len)) (omega arith) c.requires.digits
    c.hex_value.ensures.value c.hex_value-in-pairs.ensures.value c.pairs.invariant
