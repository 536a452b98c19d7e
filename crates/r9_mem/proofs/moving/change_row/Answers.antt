use Rattle.std.proofs.Common.{◌≡◌, ◌∙◌, ℕ, ◌+◌, ◌-◌, ◌<◌, ◌≤◌, length, get_or, ⊎_elim, sym, ap, arith}
use Rattle.std.proofs.lemmas.Bool.{cases_lt}
use Rattle.model_pixel.specs.Channels.{expand, pack}
use Rattle.r9_mem.proofs.Parts.{get_or-part, length-part, length-put_mid, put_mid_before, put_mid_behind, put_mid_inside}
use borrow.Rule.Slice.PartMut.{put_mid}
use Rattle.r9_mem.proofs.moving.change_row.Goals as goal

pub loop-at-preserved : goal.loop-at-preserved
loop-at-preserved c =
    let raws = c.loop-at.raws in
    let at = c.loop-at.at in
    let new = c.change_block.new.raws in
    let size = at + c.min.result - at in
    let within : at ≤ length raws = c.loop-at.invariant.inside in
    let fits : at + size ≤ length raws = omega (arith, c.min.ensures, within) in
    let part_long = length-part raws at size fits in
    let long : length new ≡ size = c.change_block.auto.raws ∙ part_long in
    record {
      inside = omega (arith, length-put_mid at size raws new fits long, fits);
      written = λ k below.
          ⊎_elim
          (λ (early : k < at). put_mid_before at size raws new k within early ∙ c.loop-at.invariant.written k early)
          (λ (late : at ≤ k).
          let j = k - at in
          let place : k ≡ at + j = omega arith in
          let part : j < size = omega arith in
          ap (λ n. get_or (put_mid at size raws new) n 0) place
          ∙ put_mid_inside at size raws new j within long part
          ∙ c.change_block.ensures j (omega (arith, part, part_long)) c.args.dst.now c.args.src.now c.writer_of-writer.ensures.value c.reader_of-source.ensures.value
          ∙ ap (λ (n : ℕ). pack c.args.dst.now (expand c.args.src.now n)) (get_or-part raws at size j part ∙ c.loop-at.invariant.left (at + j) (omega arith) ∙ ap (λ n. get_or c.args.raws.now n 0) (sym place)))
          (cases_lt k at);
      left = λ k above.
          put_mid_behind at size raws new k within long (omega (arith, above))
          ∙ c.loop-at.invariant.left k (omega (arith, above));
    }
