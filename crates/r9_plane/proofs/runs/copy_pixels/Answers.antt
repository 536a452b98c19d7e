use Rattle.std.proofs.Common.{◌≡◌, ◌+◌, ◌∙◌, arith}
use Rattle.std.proofs.lemmas.Nat.{mul-le}
use Rattle.model_pixel.specs.Rows.{raw_at}
use Rattle.r9_plane.proofs.RunLemmas.{copied_none, copied_more}
use Rattle.r9_plane.proofs.runs.copy_pixels.Goals as goal

pub loop-i-init : goal.loop-i-init
loop-i-init c =
    copied_none c.args.depth c.args.first (λ j. raw_at c.args.depth c.args.from.now (c.args.from_first + j)) c.args.bytes.now

pub overflow_add-first : goal.overflow_add-first
overflow_add-first c = omega (arith, c.requires.numbers)

pub overflow_add-from_first : goal.overflow_add-from_first
overflow_add-from_first c = omega (arith, c.requires.from_numbers)

pub read-requires-clause-within : goal.read-requires-clause-within
read-requires-clause-within c =
    let most = mul-le (c.args.from_first + c.loop-i.i + 1) c.args.depth (c.args.from_first + c.args.count) c.args.depth (omega (arith, c.loop-i-test.true)) (omega arith) in
    omega (arith, most, c.requires.from)

pub write-requires-clause-within : goal.write-requires-clause-within
write-requires-clause-within c =
    let most = mul-le (c.args.first + c.loop-i.i + 1) c.args.depth (c.args.first + c.args.count) c.args.depth (omega (arith, c.loop-i-test.true)) (omega arith) in
    omega (arith, most, c.requires.within, c.loop-i.auto.bytes)

pub loop-i-preserved : goal.loop-i-preserved
loop-i-preserved c =
    copied_more c.args.depth c.args.first c.loop-i.i (λ j. raw_at c.args.depth c.args.from.now (c.args.from_first + j))
    c.args.bytes.now c.loop-i.bytes c.write.new.bytes
    c.loop-i.invariant (c.write.ensures.written ∙ c.read.ensures.value) c.write.ensures.others

pub returns-clause-written : goal.returns-clause-written
returns-clause-written c =
    let end : c.loop-i.i ≡ c.args.count = omega arith in
    λ i h. c.loop-i.invariant.written i (omega (arith, end, h))

pub returns-clause-others : goal.returns-clause-others
returns-clause-others c =
    let end : c.loop-i.i ≡ c.args.count = omega arith in
    λ n apart. c.loop-i.invariant.others n (λ i h. apart i (omega (arith, end, h)))
