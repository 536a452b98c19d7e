use Rattle.std.proofs.Common.{◌≡◌, ℕ, ◌<◌, true, sym, subst, ap, arith, ◌∙◌}
use Rattle.model_pixel.specs.Channels.{expand, is_descriptor, mask, pack}
use Rattle.model_pixel.specs.Composition.{comp, composed_raw}
use Rattle.r9_chan.specs.Op.{number}
use Rattle.r9_mem.proofs.MovingLemmas.{grey_mask, taken}
use Rattle.r9_mem.proofs.single.Through.of.Goals as goal

pub returns : goal.returns
unfolding composed_raw
returns c =
    let src = c.args.src in
    let op = number c.args.op in
    let value = c.mask-value.result in
    let small : value < 256 = omega arith in
    let is : is_descriptor src ≡ true = subst (λ (w : ℕ). is_descriptor w ≡ true) c.word.ensures.value c.word.ensures.descriptor in
    let through : mask c.grey_byte.result value ≡ mask c.args.mask c.args.m = ap (λ (w : ℕ). mask w value) c.grey_byte.ensures ∙ grey_mask value small ∙ c.mask-value.ensures in
    record {
      composed = λ s d. ap (λ (m : ℕ). pack c.args.dst (comp op (expand src s) m (expand c.args.dst d))) through;
      moved = λ told s d. sym (taken c.args.dst src c.args.mask op s c.args.m d is (c.gives_source.ensures.source told s) (sym c.mask-value.ensures ∙ c.gives_source.ensures.full told));
    }
