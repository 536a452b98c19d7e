use Rattle.std.proofs.Common.{◌≡◌, ◌∙◌, ◌+◌, ◌-◌, ◌/◌, ◌%◌, ap, arith}
use Rattle.std.specs.Prelude.{min}
use Rattle.model_pixel.specs.Channels.{depth}
use Rattle.model_pixel.specs.Rows.{row_bytes}
use Rattle.r9_imgfile.specs.Touched.{part_len, rows_with, touched}
use Rattle.r9_imgfile.proofs.Bands.{rows_with-counted}
use Rattle.r9_imgfile.proofs.touched_rows.Goals as goal

pub returns-clause-value : goal.returns-clause-value
unfolding touched
returns-clause-value c =
    let r = c.args.info.now.r in
    let line = c.row_bytes-line.result in
    let before = c.before_part-before.result in
    let len = c.saturating_sub-len.result in
    let line_is : line ≡ row_bytes r (depth c.args.info.now.chan) = c.row_bytes-line.ensures.value ∙ ap (row_bytes r) c.depth.ensures.value in
    let len_is : len ≡ part_len c.args.offset c.args.count = omega (arith, c.saturating_sub-len.ensures, c.saturating_sub.ensures, c.from.ensures) in
    c.rows_between-2.ensures.value
    ∙ rows_with-counted r line before len c.min-first.result c.min.result (omega arith) (omega arith)
    (c.min-first.ensures ∙ ap (min (before / line)) c.height-height.ensures)
    (c.min.ensures ∙ ap (min (c.min-first.result + (before % line + len - 1) / line + 1)) c.height-height.ensures)
    ∙ (λ j. rows_with r (line_is j) (c.before_part-before.ensures j) (len_is j))
