use Rattle.std.proofs.Common.{get_or, ◌∙◌}
use Rattle.model_pixel.specs.Channels.{expand, mask, pack}
use Rattle.model_pixel.specs.Composition.{comp, composed_raw}
use Rattle.r9_chan.specs.Op.{number}
use Rattle.r9_kern.specs.Layouts.{chan_of}
use Rattle.r9_mem.proofs.rows.compose_row.Goals as goal

pub returns-in-Some-Some-Some : goal.returns-in-Some-Some-Some
unfolding composed_raw
returns-in-Some-Some-Some c i less =
    let w = c.in-Some-Some-Some in
    let s = get_or c.args.s.now i 0 in
    let m = get_or c.args.m.now i 0 in
    let d = get_or c.args.d.now i 0 in
    let op = number c.args.op in
    c.comp_raw_row.ensures i less
    ∙ (λ j. pack (chan_of w.below) (comp op (w.ensures'.reads s j) (mask (w.ensures'' j) m) (w.ensures.reads d j)))
    ∙ w.ensures.writes (comp op (expand c.args.src.now s) (mask c.args.mask.now m) (expand c.args.dst.now d))
