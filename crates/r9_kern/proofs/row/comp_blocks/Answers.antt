use Rattle.std.proofs.Common.{◌≡◌, ℕ, ◌+◌, ◌-◌, ◌<◌, ◌≤◌, length, get_or, subst, ap, ◌∙◌, arith, inl, inr}
use Rattle.std.proofs.lemmas.Bool.{cases_lt}
use Rattle.std.proofs.lemmas.Simd.{length-put_chunk, get_or-chunk, get_or-put_chunk_below, get_or-put_chunk_at, get_or-put_chunk_above}
use lib.Lanes.{put_chunk}
use Rattle.model_pixel.specs.Channels.{colour_of}
use Rattle.model_pixel.specs.Composition.{comp}
use Rattle.r9_kern.proofs.row.comp_blocks.Goals as goal

pub loop-d-preserved : goal.loop-d-preserved
loop-d-preserved g c =
    let at = c.loop-d.at in
    let d = c.loop-d.d in
    let s = c.args.s.now in
    let m = c.args.m.now in
    let old = c.args.d.now in
    let block = c.comp_block-block.result in
    let long = length-put_chunk at d block in
    let room : at + 4 ≤ length d = omega arith in
    let composed = λ (s m d : ℕ). comp g.row.OP (colour_of s) m (colour_of d) in
    let here : (j : ℕ) → j < 4 → colour_of (get_or (put_chunk at d block) (at + j) 0) ≡ composed (get_or s (at + j) 0) (get_or m (at + j) 0) (get_or old (at + j) 0) = λ j small.
    ap colour_of (get_or-put_chunk_at at d block j 0 (omega (arith, c.comp_block-block.type_inv)) (omega (arith, c.comp_block-block.type_inv)))
    ∙ c.comp_block-block.ensures j small
    ∙ (λ i. composed (get_or-chunk at 4 s j 0 small i) (get_or-chunk at 4 m j 0 small i) ((get_or-chunk at 4 d j 0 small ∙ c.loop-d.invariant.left (at + j) (omega arith)) i))
    in record {
      inside = omega (arith, long);
      whole = omega arith;
      written = λ k less.
          elim (cases_lt k at) [
            | inl early ↦ ap colour_of (get_or-put_chunk_below at d block k 0 early) ∙ c.loop-d.invariant.written k early
            | inr late ↦
                let back : at + (k - at) ≡ k = omega arith in
                subst (λ (k : ℕ). colour_of (get_or (put_chunk at d block) k 0) ≡ composed (get_or s k 0) (get_or m k 0) (get_or old k 0)) back (here (k - at) (omega arith))
          ];
      left = λ k late. get_or-put_chunk_above at d block k 0 (omega (arith, c.comp_block-block.type_inv)) ∙ c.loop-d.invariant.left k (omega arith);
    }
