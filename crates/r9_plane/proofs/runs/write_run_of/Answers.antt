use Rattle.std.proofs.Common.{◌≡◌, ◌+◌, get_or, length, arith}
use Rattle.std.proofs.lemmas.Nat.{mul-le}
use Rattle.r9_plane.proofs.RunLemmas.{copied_none, copied_more}
use Rattle.r9_plane.proofs.runs.write_run_of.Goals as goal

pub loop-i-init : goal.loop-i-init
loop-i-init g c = copied_none g.row.DEPTH c.args.first (λ j. get_or c.args.raws.now j 0) c.args.bytes.now

pub overflow_add-first : goal.overflow_add-first
overflow_add-first g c = omega (arith, c.requires.numbers)

pub write_among-requires-clause-within : goal.write_among-requires-clause-within
write_among-requires-clause-within g c =
    let most = mul-le (c.args.first + c.loop-i.i + 1) g.row.DEPTH (c.args.first + length c.args.raws.now) g.row.DEPTH (omega (arith, c.loop-i-test.true)) (omega arith) in
    omega (arith, most, c.requires.within, c.loop-i.auto.bytes)

pub write_among-requires-clause-raw : goal.write_among-requires-clause-raw
write_among-requires-clause-raw g c = c.requires.raws c.loop-i.i c.loop-i-test.true

pub loop-i-preserved : goal.loop-i-preserved
loop-i-preserved g c =
    copied_more g.row.DEPTH c.args.first c.loop-i.i (λ j. get_or c.args.raws.now j 0) c.args.bytes.now c.loop-i.bytes c.write_among.new.bytes
    c.loop-i.invariant c.write_among.ensures.written c.write_among.ensures.others

pub returns-clause-written : goal.returns-clause-written
returns-clause-written g c =
    let end : c.loop-i.i ≡ length c.args.raws.now = omega arith in
    λ i h. c.loop-i.invariant.written i (omega (arith, end, h))

pub returns-clause-others : goal.returns-clause-others
returns-clause-others g c =
    let end : c.loop-i.i ≡ length c.args.raws.now = omega arith in
    λ n apart. c.loop-i.invariant.others n (λ i h. apart i (omega (arith, end, h)))
