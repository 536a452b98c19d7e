use Rattle.std.proofs.Common.{◌≡◌, ◌∙◌, ◌+◌, ◌/◌, ◌<◌, arith}
use Rattle.std.proofs.lemmas.Nat.{mul-le}
use Rattle.r9_plane.proofs.PackedLemmas.{by_whole}
use Rattle.r9_plane.proofs.RunLemmas.{copied_joined}
use Rattle.r9_plane.proofs.runs.fill_copied.Goals as goal

pub fill_whole-requires-clause-within : goal.fill_whole-requires-clause-within
fill_whole-requires-clause-within g c =
    let most = mul-le (c.args.first + c.min-done.result) g.row.DEPTH (c.args.first + c.args.count) g.row.DEPTH (omega (arith, c.min-done.ensures)) (omega arith) in
    omega (arith, most, c.requires.within)

pub loop-done-init : goal.loop-done-init
loop-done-init g c = record {
  within = omega (arith, c.min-done.ensures);
  begun = λ h. omega (arith, c.min-done.ensures, h);
  copied = record { written = c.fill_whole.ensures.written; others = c.fill_whole.ensures.others };
}

pub repeat_run-requires-clause-within : goal.repeat_run-requires-clause-within
repeat_run-requires-clause-within g c =
    let done = c.loop-done.done in
    let most = mul-le (c.args.first + done + c.min-size.result) g.row.DEPTH (c.args.first + c.args.count) g.row.DEPTH (omega (arith, c.min-size.ensures, c.loop-done.invariant.within)) (omega arith) in
    omega (arith, most, c.requires.within, c.loop-done.auto.bytes)

pub loop-done-preserved : goal.loop-done-preserved
loop-done-preserved g c =
    let size = c.min-size.result in
    record {
      within = omega (arith, c.min-size.ensures, c.loop-done.invariant.within);
      begun = λ h. omega (arith, c.loop-done.invariant.begun h);
      copied =
          copied_joined g.row.DEPTH c.args.first c.loop-done.done size (λ _. c.args.raw)
          c.args.bytes.now c.loop-done.bytes c.repeat_run.new.bytes
          c.loop-done.invariant.copied
          (record {
            written = λ i h. c.repeat_run.ensures.written i h ∙ c.loop-done.invariant.copied.written i (omega (arith, h, c.min-size.ensures, c.min.ensures));
            others = c.repeat_run.ensures.others;
          });
    }

pub loop-done-smaller : goal.loop-done-smaller
loop-done-smaller g c =
    let some : 0 < 12288 / (g.row.DEPTH / 8) = by_whole (λ d. 0 < 12288 / (d / 8)) g.row.DEPTH c.requires.depth c.requires.whole (omega arith) (omega arith) (omega arith) (omega arith) in
    omega (arith, some, c.min-size.ensures, c.min.ensures, c.loop-done.invariant.begun (omega arith))

pub returns-clause-written : goal.returns-clause-written
returns-clause-written g c =
    let end : c.loop-done.done ≡ c.args.count = omega (arith, c.loop-done.invariant.within, c.loop-done-test.false) in
    λ i h. c.loop-done.invariant.copied.written i (omega (arith, end, h))

pub returns-clause-others : goal.returns-clause-others
returns-clause-others g c =
    let end : c.loop-done.done ≡ c.args.count = omega (arith, c.loop-done.invariant.within, c.loop-done-test.false) in
    λ n apart. c.loop-done.invariant.copied.others n (λ i h. apart i (omega (arith, end, h)))
