use Rattle.std.proofs.Common.{◌≡◌, ◌∙◌, ◌+◌, ◌*◌, refl, arith, length-append}
use Rattle.model_draw.specs.imgfile.ImageFile.{file_header, rows_len}
use Rattle.r9_imgfile.proofs.FileLemmas.{length-file_header}
use Rattle.r9_imgfile.proofs.len.Goals as goal

pub returns-clause-whole : goal.returns-clause-whole
returns-clause-whole c rows h =
    let chan = c.args.info.now.chan in
    let r = c.args.info.now.r in
    let value : 60 + c.height.result * c.row_bytes.result ≡ 60 + rows_len chan r = rw (c.height.ensures, c.row_bytes.ensures.value, c.depth.ensures.value) refl in
    value ∙ omega (arith, h, length-append (file_header chan r) rows, length-file_header chan r c.requires.near)
