use Rattle.std.proofs.Common.{◌≡◌, ℕ, List, true, get_or, sym, subst, ap, arith, ◌∙◌}
use Rattle.model_pixel.specs.Channels.{expand, is_descriptor, pack}
use Rattle.r9_chan.specs.Op.{number}
use Rattle.r9_mem.proofs.MovingLemmas.{taken}
use Rattle.r9_mem.proofs.rows.compose.Goals as goal

pub returns-then-is_moved : goal.returns-then-is_moved
returns-then-is_moved c i less =
    let src = c.args.src in
    let s = get_or c.args.s.now i 0 in
    let is : is_descriptor src ≡ true = subst (λ (w : ℕ). is_descriptor w ≡ true) c.word.ensures.value c.word.ensures.descriptor in
    c.change.ensures i less
    ∙ ap (λ (raws : List ℕ). pack c.args.dst (expand src (get_or raws i 0))) c.copy_from_slice.ensures.after
    ∙ sym (taken c.args.dst src c.args.mask (number c.args.op) s (get_or c.args.m.now i 0) (get_or c.args.d.now i 0) is (c.is_moved.ensures.source c.if-is_moved.true s) (c.is_moved.ensures.masks c.if-is_moved.true i (omega (arith, less, c.change.auto.raws, c.copy_from_slice.auto.self, c.requires.masks))))
