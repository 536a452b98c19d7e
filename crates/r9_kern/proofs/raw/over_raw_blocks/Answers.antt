use Rattle.std.proofs.Common.{◌≡◌, ℕ, ◌+◌, ◌-◌, ◌<◌, ◌≤◌, length, get_or, subst, ◌∙◌, arith, inl, inr}
use Rattle.std.proofs.lemmas.Bool.{cases_lt}
use Rattle.std.proofs.lemmas.Simd.{length-put_chunk, get_or-chunk, get_or-put_chunk_below, get_or-put_chunk_at, get_or-put_chunk_above}
use lib.Lanes.{put_chunk}
use Rattle.r9_kern.specs.Over.{over_raw}
use Rattle.r9_kern.specs.Layouts.{chan_of}
use Rattle.r9_kern.proofs.raw.over_raw_blocks.Goals as goal

pub loop-at-preserved : goal.loop-at-preserved
loop-at-preserved c =
    let at = c.loop-at.at in
    let d = c.loop-at.d in
    let s = c.args.s.now in
    let old = c.args.d.now in
    let block = c.over_raw_block-block.result in
    let long = length-put_chunk at d block in
    let room : at + 4 ≤ length d = omega arith in
    let composed = over_raw (chan_of c.args.dst) (chan_of c.args.src) in
    let here : (j : ℕ) → j < 4 → get_or (put_chunk at d block) (at + j) 0 ≡ composed (get_or s (at + j) 0) (get_or old (at + j) 0) = λ j small.
    get_or-put_chunk_at at d block j 0 (omega (arith, c.over_raw_block-block.type_inv)) (omega (arith, c.over_raw_block-block.type_inv))
    ∙ c.over_raw_block-block.ensures j small
    ∙ (λ i. composed (get_or-chunk at 4 s j 0 small i) ((get_or-chunk at 4 d j 0 small ∙ c.loop-at.invariant.left (at + j) (omega arith)) i))
    in record {
      inside = omega (arith, long);
      whole = omega arith;
      written = λ k less.
          elim (cases_lt k at) [
            | inl early ↦ get_or-put_chunk_below at d block k 0 early ∙ c.loop-at.invariant.written k early
            | inr late ↦
                let back : at + (k - at) ≡ k = omega arith in
                subst (λ (k : ℕ). get_or (put_chunk at d block) k 0 ≡ composed (get_or s k 0) (get_or old k 0)) back (here (k - at) (omega arith))
          ];
      left = λ k late. get_or-put_chunk_above at d block k 0 (omega (arith, c.over_raw_block-block.type_inv)) ∙ c.loop-at.invariant.left k (omega arith);
    }
