use Rattle.std.proofs.Common.{◌≡◌, ◌+◌, ◌-◌, ◌^◌, ◌∙◌, ap, sym, arith}
use Rattle.std.specs.Int.Bits.{bit_and}
use Rattle.std.proofs.Math.Nat.{mod-eq_of_lt}
use Rattle.std.proofs.lemmas.Nat.{and_mask}
use Rattle.model_pixel.specs.Rows.{raw_at}
use Rattle.r9_plane.proofs.keeping.copy_kept.Goals as goal

pub returns-then-bits-all_bits-clause-written : goal.returns-then-bits-all_bits-clause-written
returns-then-bits-all_bits-clause-written c i h =
    let raw = raw_at c.args.depth c.args.from.now (c.args.from_first + i) in
    let all : c.args.bits ≡ 2 ^ c.args.depth - 1 = omega (arith, c.if-bits-all_bits.true, c.all_bits.ensures) in
    c.copy_run.ensures.written i h
    ∙ sym (ap (bit_and raw) all ∙ and_mask raw c.args.depth ∙ mod-eq_of_lt (c.sound.ensures (c.args.from_first + i)))
