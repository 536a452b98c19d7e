use Rattle.r9_imgfile.proofs.Bands.{part_is}
use Rattle.r9_imgfile.proofs.part.Goals as goal

pub returns : goal.returns
returns c pixel is =
    rw (
      c.in_ok-push_all.ensures.ok,
      c.slice_of-2.ensures,
      c.len.ensures,
      c.before_in_row-before.ensures,
      c.in_ok-out.ensures,
      c.slice_of.ensures,
      c.as_slice.ensures,
      c.in_ok-head.ensures,
    )
    (part_is c.args.info.now.chan c.args.info.now.r c.args.rows.now c.args.offset c.args.count pixel c.requires.near is)
