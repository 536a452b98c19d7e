use Rattle.std.proofs.Common.{◌≡◌, ◌∙◌, ◌+◌, ◌-◌, ◌<◌, ◌≤◌, length, get_or, ⊎_elim, sym, ap, arith}
use Rattle.std.proofs.lemmas.Bool.{cases_lt}
use Rattle.model_pixel.specs.Composition.{composed_raw}
use Rattle.r9_chan.specs.Op.{number}
use Rattle.r9_mem.proofs.Parts.{get_or-part, length-part, length-put_mid, put_mid_before, put_mid_behind, put_mid_inside, repeated}
use borrow.Rule.Slice.PartMut.{put_mid}
use Rattle.r9_mem.proofs.single.fill_blocks.Goals as goal

pub loop-at-preserved : goal.loop-at-preserved
loop-at-preserved c =
    let d = c.loop-at.d in
    let at = c.loop-at.at in
    let new = c.compose_block.new.d in
    let size = at + c.min-len.result - at in
    let within : at ≤ length d = c.loop-at.invariant.inside in
    let fits : at + size ≤ length d = omega (arith, c.min-len.ensures, within) in
    let part_long = length-part d at size fits in
    let long : length new ≡ size = c.compose_block.auto.d ∙ part_long in
    record {
      inside = omega (arith, length-put_mid at size d new fits long, fits);
      written = λ k below.
          ⊎_elim
          (λ (early : k < at). put_mid_before at size d new k within early ∙ c.loop-at.invariant.written k early)
          (λ (late : at ≤ k).
          let j = k - at in
          let place : k ≡ at + j = omega arith in
          let part : j < size = omega arith in
          let inside : j < c.min-len.result = omega (arith, part) in
          let few : c.min-len.result ≤ 256 = omega (arith, c.min-len.ensures) in
          ap (λ n. get_or (put_mid at size d new) n 0) place
          ∙ put_mid_inside at size d new j within long part
          ∙ c.compose_block.ensures j (omega (arith, part, long))
          ∙ (λ i. composed_raw c.args.dst.now c.args.src.now c.args.grey.now (number c.args.op)
          (repeated 256 c.min-len.result j c.args.s inside few i)
          c.args.value
          ((get_or-part d at size j part ∙ c.loop-at.invariant.left (at + j) (omega arith) ∙ ap (λ n. get_or c.args.d.now n 0) (sym place)) i)))
          (cases_lt k at);
      left = λ k above.
          put_mid_behind at size d new k within long (omega (arith, above))
          ∙ c.loop-at.invariant.left k (omega (arith, above));
    }
