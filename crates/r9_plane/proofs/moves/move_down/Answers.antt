use Rattle.std.proofs.Common.{◌≡◌, ◌+◌, ◌∙◌, ap, arith}
use Rattle.std.specs.Int.Bits.{bit_and}
use Rattle.std.proofs.lemmas.Nat.{mul-le}
use Rattle.model_pixel.specs.Rows.{raw_at}
use Rattle.r9_plane.proofs.RunLemmas.{copied_joined, copied_none}
use Rattle.r9_plane.proofs.moves.move_down.Goals as goal

pub loop-done-init : goal.loop-done-init
loop-done-init c = record {
  within = omega arith;
  copied = copied_none c.args.depth c.args.first (λ i. bit_and (raw_at c.args.depth c.args.bytes.now (c.args.from_first + i)) c.args.bits) c.args.bytes.now;
}

pub move_block-requires-clause-within : goal.move_block-requires-clause-within
move_block-requires-clause-within c =
    let size = c.min-size.result in
    let most = mul-le (c.args.first + c.loop-done.done + size) c.args.depth (c.args.from_first + c.args.count) c.args.depth (omega (arith, c.min-size.ensures, c.loop-done.invariant.within, c.requires.order)) (omega arith) in
    omega (arith, most, c.requires.from, c.loop-done.auto.bytes)

pub move_block-requires-clause-from : goal.move_block-requires-clause-from
move_block-requires-clause-from c =
    let size = c.min-size.result in
    let most = mul-le (c.args.from_first + c.loop-done.done + size) c.args.depth (c.args.from_first + c.args.count) c.args.depth (omega (arith, c.min-size.ensures, c.loop-done.invariant.within)) (omega arith) in
    omega (arith, most, c.requires.from, c.loop-done.auto.bytes)

pub loop-done-preserved : goal.loop-done-preserved
loop-done-preserved c =
    let size = c.min-size.result in
    let done = c.loop-done.done in
    let from = c.args.from_first in
    let inv = c.loop-done.invariant in
    record {
      within = omega (arith, c.min-size.ensures, inv.within);
      copied =
          copied_joined c.args.depth c.args.first done size (λ i. bit_and (raw_at c.args.depth c.args.bytes.now (from + i)) c.args.bits)
          c.args.bytes.now c.loop-done.bytes c.move_block.new.bytes
          inv.copied
          (record {
            written = λ i h.
                let at : from + done + i ≡ from + (done + i) = omega arith in
                c.move_block.ensures.written i h
                ∙ ap (λ raw. bit_and raw c.args.bits) (inv.copied.others (from + done + i) (λ j l. omega (arith, l, c.requires.order)) ∙ ap (raw_at c.args.depth c.args.bytes.now) at);
            others = c.move_block.ensures.others;
          });
    }

pub returns-clause-written : goal.returns-clause-written
returns-clause-written c =
    let end : c.loop-done.done ≡ c.args.count = omega (arith, c.loop-done.invariant.within, c.loop-done-test.false) in
    λ i h. c.loop-done.invariant.copied.written i (omega (arith, end, h))

pub returns-clause-others : goal.returns-clause-others
returns-clause-others c =
    let end : c.loop-done.done ≡ c.args.count = omega (arith, c.loop-done.invariant.within, c.loop-done-test.false) in
    λ n apart. c.loop-done.invariant.copied.others n (λ i h. apart i (omega (arith, end, h)))
