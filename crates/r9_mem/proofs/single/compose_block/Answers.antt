use Rattle.std.proofs.Common.{◌≡◌, get_or, sym, ap, ◌∙◌, arith}
use Rattle.model_pixel.specs.Channels.{expand, mask, pack}
use Rattle.model_pixel.specs.Composition.{comp, composed_raw}
use Rattle.r9_chan.specs.declared.operator.Op.{Op}
use Rattle.r9_chan.specs.Op.{number}
use Rattle.r9_kern.specs.Layouts.{chan_of}
use Rattle.r9_mem.proofs.MovingLemmas.{grey_mask, over_full}
use Rattle.r9_mem.proofs.single.compose_block.Goals as goal

pub returns-in-SoverD-Some-Some : goal.returns-in-SoverD-Some-Some
returns-in-SoverD-Some-Some c i less =
    let w = c.in-SoverD-Some-Some in
    let dst = c.args.dst.now in
    let src = c.args.src.now in
    let s = get_or c.args.s.now i 0 in
    let d = get_or c.args.d.now i 0 in
    let value : c.args.value ≡ 255 = c.if-value-eq255.true in
    let full : mask c.args.grey.now c.args.value ≡ 255 = (λ j. mask (c.requires.grey j) (value j)) ∙ grey_mask 255 (omega arith) in
    c.over_raw_row.ensures i less
    ∙ (λ j. pack (chan_of w.below) (comp 11 (w.ensures'.reads s j) 255 (w.ensures.reads d j)))
    ∙ w.ensures.writes (comp 11 (expand src s) 255 (expand dst d))
    ∙ over_full dst src c.args.grey.now s c.args.value d full
    ∙ ap (λ (op : Op). composed_raw dst src c.args.grey.now (number op) s c.args.value d) (sym w.is-0)
