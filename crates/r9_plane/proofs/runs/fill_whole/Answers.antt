use Rattle.std.proofs.Common.{◌≡◌, ◌+◌, arith}
use Rattle.std.proofs.lemmas.Nat.{mul-le}
use Rattle.r9_plane.proofs.RunLemmas.{copied_none, copied_more}
use Rattle.r9_plane.proofs.runs.fill_whole.Goals as goal

pub loop-i-init : goal.loop-i-init
loop-i-init g c = copied_none g.row.DEPTH c.args.first (λ _. c.args.raw) c.args.bytes.now

pub overflow_add-first : goal.overflow_add-first
overflow_add-first g c = omega (arith, c.requires.numbers)

pub write-requires-clause-within : goal.write-requires-clause-within
write-requires-clause-within g c =
    let most = mul-le (c.args.first + c.loop-i.i + 1) g.row.DEPTH (c.args.first + c.args.count) g.row.DEPTH (omega (arith, c.loop-i-test.true)) (omega arith) in
    omega (arith, most, c.requires.within, c.loop-i.auto.bytes)

pub loop-i-preserved : goal.loop-i-preserved
loop-i-preserved g c =
    copied_more g.row.DEPTH c.args.first c.loop-i.i (λ _. c.args.raw) c.args.bytes.now c.loop-i.bytes c.write.new.bytes
    c.loop-i.invariant c.write.ensures.written c.write.ensures.others

pub returns-clause-written : goal.returns-clause-written
returns-clause-written g c =
    let end : c.loop-i.i ≡ c.args.count = omega arith in
    λ i h. c.loop-i.invariant.written i (omega (arith, end, h))

pub returns-clause-others : goal.returns-clause-others
returns-clause-others g c =
    let end : c.loop-i.i ≡ c.args.count = omega arith in
    λ n apart. c.loop-i.invariant.others n (λ i h. apart i (omega (arith, end, h)))
