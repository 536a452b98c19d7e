use Rattle.std.proofs.Common.{◌<◌, ◌+◌, ◌*◌, ◌%◌, length, get_or, arith, ap, ◌∙◌, below_more, get_or-set_same, get_or-set_other}
use Rattle.model_pixel.specs.Channels.{colour_of}
use Rattle.r9_mem.proofs.FieldLemmas.{grey_read}
use Rattle.r9_mem.proofs.reading.read_greys.Goals as goal

pub loop-i-preserved : goal.loop-i-preserved
loop-i-preserved c =
    let i = c.loop-i.i in
    let words = c.loop-i.words in
    let raw = get_or c.args.raws.now i 0 in
    let word = raw % 256 * 16843008 + 255 in
    let below : i < length words = omega arith in
    below_more _ _
    (λ k h. ap colour_of (get_or-set_other words i k word 0 (omega arith)) ∙ c.loop-i.invariant k h)
    (ap colour_of (get_or-set_same words i word 0 below) ∙ grey_read raw)
