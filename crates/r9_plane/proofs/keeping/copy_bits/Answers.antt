use Rattle.std.proofs.Common.{◌≡◌, ◌+◌, ◌∙◌, ap, arith}
use Rattle.std.specs.Int.Bits.{bit_and}
use Rattle.std.proofs.lemmas.Nat.{and_le_l, mul-le}
use Rattle.model_pixel.specs.Rows.{raw_at}
use Rattle.r9_plane.proofs.RunLemmas.{copied_none, copied_more}
use Rattle.r9_plane.proofs.keeping.copy_bits.Goals as goal

pub loop-i-init : goal.loop-i-init
loop-i-init g c = copied_none g.row.DEPTH c.args.first (λ j. bit_and (raw_at g.row.DEPTH c.args.from.now (c.args.from_first + j)) c.args.bits) c.args.bytes.now

pub overflow_add-first : goal.overflow_add-first
overflow_add-first g c = omega (arith, c.requires.numbers)

pub overflow_add-from_first : goal.overflow_add-from_first
overflow_add-from_first g c = omega (arith, c.requires.from_numbers)

pub read-raw-requires-clause-within : goal.read-raw-requires-clause-within
read-raw-requires-clause-within g c =
    let most = mul-le (c.args.from_first + c.loop-i.i + 1) g.row.DEPTH (c.args.from_first + c.args.count) g.row.DEPTH (omega (arith, c.loop-i-test.true)) (omega arith) in
    omega (arith, most, c.requires.from)

pub write-requires-clause-within : goal.write-requires-clause-within
write-requires-clause-within g c =
    let most = mul-le (c.args.first + c.loop-i.i + 1) g.row.DEPTH (c.args.first + c.args.count) g.row.DEPTH (omega (arith, c.loop-i-test.true)) (omega arith) in
    omega (arith, most, c.requires.within, c.loop-i.auto.bytes)

pub write-requires-clause-raw : goal.write-requires-clause-raw
write-requires-clause-raw g c = omega (arith, and_le_l c.read-raw.result c.args.bits, c.read-raw.ensures.range)

pub loop-i-preserved : goal.loop-i-preserved
loop-i-preserved g c =
    copied_more g.row.DEPTH c.args.first c.loop-i.i (λ j. bit_and (raw_at g.row.DEPTH c.args.from.now (c.args.from_first + j)) c.args.bits)
    c.args.bytes.now c.loop-i.bytes c.write.new.bytes
    c.loop-i.invariant
    (c.write.ensures.written ∙ ap (λ raw. bit_and raw c.args.bits) c.read-raw.ensures.value)
    c.write.ensures.others

pub returns-clause-written : goal.returns-clause-written
returns-clause-written g c =
    let end : c.loop-i.i ≡ c.args.count = omega arith in
    λ i h. c.loop-i.invariant.written i (omega (arith, end, h))

pub returns-clause-others : goal.returns-clause-others
returns-clause-others g c =
    let end : c.loop-i.i ≡ c.args.count = omega arith in
    λ n apart. c.loop-i.invariant.others n (λ i h. apart i (omega (arith, end, h)))
