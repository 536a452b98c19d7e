use Rattle.std.proofs.Common.{◌≡◌, ◌∙◌, ◌<◌, length, get_or, take, ap, arith}
use Rattle.model_pixel.specs.Channels.{colour_of, expand, mask, pack}
use Rattle.model_pixel.specs.Composition.{comp, composed_raw}
use Rattle.r9_chan.specs.Op.{number}
use Rattle.r9_mem.proofs.Parts.{block, block_short, block_written}
use borrow.Rule.Slice.PartMut.{put_mid}
use Rattle.r9_mem.proofs.rows.compose_block.Goals as goal

pub returns : goal.returns
unfolding composed_raw
returns c dst src chan serves i less =
    let n = length c.args.d.now in
    let op = number c.args.op in
    let short = block_short n c.requires.few in
    let below : i < n = omega (arith, less, c.write_row.auto.raws) in
    let masks = c.mask_row.new.masks in
    let masks_long : length masks ≡ n = c.mask_row.auto.masks ∙ short in
    let m : get_or masks i 0 ≡ mask chan (get_or c.args.m.now i 0) =
    c.mask_row.ensures i (omega (arith, below, masks_long)) ∙ serves.through (get_or c.args.m.now i 0) in
    let above = c.read_row.new.words in
    let above_long : length above ≡ n = c.read_row.auto.words ∙ short in
    let s : colour_of (get_or (take n (put_mid 0 n block above)) i 0) ≡ expand src (get_or c.args.s.now i 0) =
    ap colour_of (block_written n above i above_long below) ∙ c.read_row.ensures i (omega (arith, below, above_long)) ∙ serves.source (get_or c.args.s.now i 0) in
    let words = c.read_row-2.new.words in
    let words_long : length words ≡ n = c.read_row-2.auto.words ∙ short in
    let d : colour_of (get_or words i 0) ≡ expand dst (get_or c.args.d.now i 0) =
    c.read_row-2.ensures i (omega (arith, below, words_long)) ∙ serves.target (get_or c.args.d.now i 0) in
    c.write_row.ensures i less
    ∙ serves.writer (get_or c.comp_row.new.d i 0)
    ∙ ap (pack dst) (c.comp_row.ensures i (omega (arith, below, words_long, c.comp_row.auto.d)) ∙ (λ j. comp op (s j) (m j) (d j)))
