use Rattle.std.proofs.Common.{◌≡◌, ◌+◌, ◌-◌, ◌∙◌, ap, arith}
use Rattle.std.specs.Int.Bits.{bit_and}
use Rattle.std.proofs.lemmas.Nat.{mul-le}
use Rattle.model_pixel.specs.Rows.{raw_at}
use Rattle.r9_plane.proofs.Moving.{copied_before, copied_nothing}
use Rattle.r9_plane.proofs.moves.move_up.Goals as goal

pub loop-left-init : goal.loop-left-init
loop-left-init c = record {
  within = omega arith;
  copied = copied_nothing c.args.depth (c.args.first + c.args.count) (c.args.count - c.args.count) (λ i. bit_and (raw_at c.args.depth c.args.bytes.now (c.args.from_first + (c.args.count + i))) c.args.bits) c.args.bytes.now (omega arith);
}

pub move_block-requires-clause-within : goal.move_block-requires-clause-within
move_block-requires-clause-within c =
    let size = c.min-size.result in
    let low = c.loop-left.left - size in
    let most = mul-le (c.args.first + low + size) c.args.depth (c.args.first + c.args.count) c.args.depth (omega (arith, c.min-size.ensures, c.loop-left.invariant.within)) (omega arith) in
    omega (arith, most, c.requires.within, c.loop-left.auto.bytes)

pub move_block-requires-clause-from : goal.move_block-requires-clause-from
move_block-requires-clause-from c =
    let size = c.min-size.result in
    let low = c.loop-left.left - size in
    let most = mul-le (c.args.from_first + low + size) c.args.depth (c.args.first + c.args.count) c.args.depth (omega (arith, c.min-size.ensures, c.loop-left.invariant.within, c.requires.order)) (omega arith) in
    omega (arith, most, c.requires.within, c.loop-left.auto.bytes)

pub loop-left-preserved : goal.loop-left-preserved
loop-left-preserved c =
    let size = c.min-size.result in
    let left = c.loop-left.left in
    let low = left - size in
    let from = c.args.from_first in
    let inv = c.loop-left.invariant in
    let whole : left ≡ low + size = omega (arith, c.min-size.ensures) in
    record {
      within = omega (arith, inv.within);
      copied =
          copied_before c.args.depth c.args.first left low size (c.args.count - left) (c.args.count - low) (λ i. bit_and (raw_at c.args.depth c.args.bytes.now (from + i)) c.args.bits)
          c.args.bytes.now c.loop-left.bytes c.move_block.new.bytes
          whole (omega (arith, whole, inv.within)) inv.copied
          (record {
            written = λ i h.
                let at : from + low + i ≡ from + (low + i) = omega arith in
                c.move_block.ensures.written i h
                ∙ ap (λ raw. bit_and raw c.args.bits) (inv.copied.others (from + low + i) (λ j l. omega (arith, h, whole, c.requires.order)) ∙ ap (raw_at c.args.depth c.args.bytes.now) at);
            others = c.move_block.ensures.others;
          });
    }

pub returns-clause-written : goal.returns-clause-written
returns-clause-written c i h =
    let inv = c.loop-left.invariant in
    let end : c.loop-left.left ≡ 0 = omega (arith, c.loop-left-test.false) in
    let at : c.args.first + i ≡ c.args.first + c.loop-left.left + i = omega (arith, end) in
    let from : c.args.from_first + (c.loop-left.left + i) ≡ c.args.from_first + i = omega (arith, end) in
    ap (raw_at c.args.depth c.loop-left.bytes) at ∙ inv.copied.written i (omega (arith, end, h)) ∙ ap (λ n. bit_and (raw_at c.args.depth c.args.bytes.now n) c.args.bits) from

pub returns-clause-others : goal.returns-clause-others
returns-clause-others c n apart =
    let end : c.loop-left.left ≡ 0 = omega (arith, c.loop-left-test.false) in
    c.loop-left.invariant.copied.others n (λ i h same. apart i (omega (arith, end, h)) (omega (arith, end, same)))
