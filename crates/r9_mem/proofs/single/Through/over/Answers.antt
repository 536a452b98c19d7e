use Rattle.std.proofs.Common.{◌≡◌, ◌∙◌, sym, ap, arith}
use Rattle.model_pixel.specs.Channels.{expand, mask, pack}
use Rattle.model_pixel.specs.Composition.{comp, composed_raw}
use Rattle.r9_chan.specs.declared.operator.Op.{Op}
use Rattle.r9_chan.specs.Op.{number}
use Rattle.r9_kern.specs.Layouts.{chan_of}
use Rattle.r9_mem.proofs.MovingLemmas.{grey_mask, over_full}
use Rattle.r9_mem.proofs.single.Through.over.Goals as goal

pub returns-in-SoverD-Some-Some : goal.returns-in-SoverD-Some-Some
returns-in-SoverD-Some-Some c dst src chan op m is s d =
    let w = c.in-SoverD-Some-Some in
    let self = c.args.self.now in
    let value : self.value ≡ 255 = c.if-self.true in
    let full : mask self.grey self.value ≡ 255 = (λ j. mask (self.is_grey j) (value j)) ∙ grey_mask 255 (omega arith) in
    (λ j. pack (chan_of w.dst) (comp 11 (w.ensures'.reads s j) 255 (w.ensures.reads d j)))
    ∙ w.ensures.writes (comp 11 (expand self.src s) 255 (expand self.dst d))
    ∙ over_full self.dst self.src self.grey s self.value d full
    ∙ ap (λ (op : Op). composed_raw self.dst self.src self.grey (number op) s self.value d) (sym w.is-0)
    ∙ is.composed s d
