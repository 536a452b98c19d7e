use Rattle.std.proofs.Common.{Fits, w32, rules, ◌≡◌, ℕ, ◌+◌, ◌*◌, ◌/◌, ◌%◌, ◌<◌, ◌≤◌, length, get_or, refl, ◌∙◌, arith}
use Rattle.std.proofs.lemmas.Simd.{length-put_chunk}
use lib.Lanes.{Each1}
use Rattle.model_pixel.specs.Rows.{raw_at}
use Rattle.r9_kern.specs.Over.{over_raw}
use Rattle.r9_kern.specs.Layouts.{chan_of}
use Rattle.r9_kern.proofs.LayoutLemmas.{word_lane}
use Rattle.r9_kern.proofs.ByteLemmas.{digits_raw, done_more, puts, read_raw}
use Rattle.r9_kern.proofs.bytes.over_blocks.Goals as goal

pub loop-at-init : goal.loop-at-init
loop-at-init c = record {
  inside = omega arith;
  whole = omega arith;
  done = record { made = λ n less. absurd (omega arith); left = λ k late. refl };
}

pub loop-at-preserved : goal.loop-at-preserved
loop-at-preserved c =
    let at = c.loop-at.at in
    let d = c.loop-at.d in
    let s = c.args.s.now in
    let old = c.args.d.now in
    let inv = c.loop-at.invariant in
    let block = c.over_raw_block-block.result in
    let bs = c.components.result in
    let fits : Each1 (Fits w32) block = search rules in
    let four : length block ≡ 4 = omega (arith, c.over_raw_block-block.type_inv) in
    let long : length bs ≡ 16 = omega (arith, c.components.type_inv) in
    let composed = over_raw (chan_of c.args.dst) (chan_of c.args.src) in
    let whole : at % 4 ≡ 0 = omega (arith, inv.whole) in
    let room : at + 16 ≤ length d = omega (arith, inv.whole) in
    let here : (j : ℕ) → 4 * j < length bs → raw_at 32 bs j ≡ composed (raw_at 32 s (at / 4 + j)) (raw_at 32 old (at / 4 + j)) = λ j within.
    let less : j < 4 = omega (arith, long) in
    digits_raw bs j (get_or block j 0) (word_lane block j four fits less) (λ k small. c.components.ensures j k less small)
    ∙ c.over_raw_block-block.ensures j less
    ∙ (λ i. composed ((c.words-source.ensures j less ∙ read_raw s s at j whole less (λ k late. refl)) i) ((c.words-target.ensures j less ∙ read_raw d old at j whole less inv.done.left) i))
    in record {
      inside = omega (arith, room, length-put_chunk at d bs);
      whole = omega (arith, inv.whole);
      done = done_more composed s old d _ bs at (at + 16) whole (omega (arith, long)) (puts d bs at whole (omega (arith, long)) (omega (arith, long, room))) here inv.done;
    }

pub returns-clause-blocks : goal.returns-clause-blocks
returns-clause-blocks c n less = c.loop-at.invariant.done.made n (omega arith)

pub returns-clause-rest : goal.returns-clause-rest
returns-clause-rest c k late = c.loop-at.invariant.done.left k (omega (arith, c.loop-at.invariant.whole, c.loop-at.invariant.inside))
