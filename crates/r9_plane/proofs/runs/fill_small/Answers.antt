use Rattle.std.proofs.Common.{◌≡◌, ◌≤◌, ◌+◌, ◌/◌, ◌%◌, ◌^◌, ◌<◌, ◌∙◌, ℕ, replicate, true, arith}
use Rattle.std.proofs.lemmas.Bool.Decides.{nat_tests}
use Rattle.std.proofs.lemmas.Nat.{mul-le}
use Rattle.std.proofs.lemmas.List.{get_or-replicate, length-replicate}
use Rattle.model_pixel.specs.Channels.{is_depth, repeated}
use Rattle.model_pixel.specs.Rows.{raw_at}
use Rattle.r9_plane.proofs.RunLemmas.{copied_joined, copied_none, small_filled}
use Rattle.r9_plane.proofs.runs.fill_small.Goals as goal

small_most : (depth : ℕ) → is_depth depth ≡ true → depth < 8 → depth ≤ 4
small_most depth is small = grind (arith, nat_tests)

-- the pixels of the block
block_is : (depth raw byte : ℕ) → is_depth depth ≡ true → depth < 8 → raw < 2 ^ depth → byte ≡ repeated (8 / depth) depth raw → (n : ℕ) → n < 256 → raw_at depth (replicate 128 byte) n ≡ raw
block_is depth raw byte is small low byte_is n h =
    let most = small_most depth is small in
    small_filled depth 256 raw 128 byte (replicate 128 byte) is small low (omega (arith, most))
    (λ j l. get_or-replicate 128 j byte 0 l) byte_is n h

pub loop-done-init : goal.loop-done-init
loop-done-init c = record {
  within = omega arith;
  copied = copied_none c.args.depth c.args.first (λ _. c.args.raw) c.args.bytes.now;
}

pub copy_run-requires-clause-within : goal.copy_run-requires-clause-within
copy_run-requires-clause-within c =
    let size = c.min-size.result in
    let done = c.loop-done.done in
    let most = mul-le (c.args.first + done + size) c.args.depth (c.args.first + c.args.count) c.args.depth (omega (arith, c.min-size.ensures, c.loop-done.invariant.within)) (omega arith) in
    omega (arith, most, c.requires.within, c.loop-done.auto.bytes)

pub copy_run-requires-clause-from : goal.copy_run-requires-clause-from
copy_run-requires-clause-from c =
    let size = c.min-size.result in
    let most = mul-le (c.args.first % 8 + size) c.args.depth 256 c.args.depth (omega (arith, c.min-size.ensures)) (omega arith) in
    let low : c.args.depth ≤ 4 = small_most c.args.depth c.requires.depth c.requires.small in
    omega (arith, most, low, length-replicate 128 c.byte_of-block.result)

pub loop-done-preserved : goal.loop-done-preserved
loop-done-preserved c =
    let size = c.min-size.result in
    record {
      within = omega (arith, c.min-size.ensures, c.loop-done.invariant.within);
      copied =
          copied_joined c.args.depth c.args.first c.loop-done.done size (λ _. c.args.raw)
          c.args.bytes.now c.loop-done.bytes c.copy_run.new.bytes
          c.loop-done.invariant.copied
          (record {
            written = λ i h. c.copy_run.ensures.written i h ∙ block_is c.args.depth c.args.raw c.byte_of-block.result c.requires.depth c.requires.small c.requires.raw c.byte_of-block.ensures (c.args.first % 8 + i) (omega (arith, h, c.min-size.ensures));
            others = c.copy_run.ensures.others;
          });
    }

pub returns-clause-written : goal.returns-clause-written
returns-clause-written c =
    let end : c.loop-done.done ≡ c.args.count = omega (arith, c.loop-done.invariant.within, c.loop-done-test.false) in
    λ i h. c.loop-done.invariant.copied.written i (omega (arith, end, h))

pub returns-clause-others : goal.returns-clause-others
returns-clause-others c =
    let end : c.loop-done.done ≡ c.args.count = omega (arith, c.loop-done.invariant.within, c.loop-done-test.false) in
    λ n apart. c.loop-done.invariant.copied.others n (λ i h. apart i (omega (arith, end, h)))
