use Rattle.std.proofs.Common.{◌≡◌, ◌≤◌, ◌*◌, ◌+◌, ◌∙◌, ap, length, arith, replicate, get_or}
use Rattle.std.proofs.lemmas.List.{get_or-replicate, with_items_is}
use Rattle.r9_plane.proofs.RunLemmas.{small_filled}
use Rattle.model_pixel.specs.Rows.{raw_at}
use Rattle.r9_plane.proofs.runs.filled.Goals as goal

pub returns-then-depth-lt8-clause-pixels : goal.returns-then-depth-lt8-clause-pixels
returns-then-depth-lt8-clause-pixels c =
    let all : c.in_ok-vec.field-0.items ≡ replicate c.div_ceil-size.result c.byte_of.result = c.in_ok-vec.ensures.items_if_clones_equal (λ y h. h) in
    let fits : c.args.count * c.args.depth ≤ 8 * c.div_ceil-size.result = omega (arith, c.div_ceil-size.ensures) in
    small_filled c.args.depth c.args.count c.args.raw c.div_ceil-size.result c.byte_of.result c.in_ok-vec.field-0.items
    c.requires.depth c.if-depth-lt8.true c.requires.raw fits
    (λ j h. ap (λ xs. get_or xs j 0) all ∙ get_or-replicate c.div_ceil-size.result j c.byte_of.result 0 h)
    c.byte_of.ensures

pub returns-clause-pixels : goal.returns-clause-pixels
returns-clause-pixels c n below =
    let depth = c.args.depth in
    let bytes = c.fill_run.new.bytes in
    let size : length bytes ≡ c.in_ok-bytes.bytes.len = omega arith in
    let here : n ≡ 0 + n = omega arith in
    ap (λ items. raw_at depth items n) (with_items_is c.in_ok-bytes.bytes bytes size)
    ∙ ap (raw_at depth bytes) here
    ∙ c.fill_run.ensures.written n below
