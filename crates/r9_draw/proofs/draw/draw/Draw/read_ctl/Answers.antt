use Rattle.std.proofs.Common.{length, ap, ◌∙◌, arith}
use Rattle.r9_draw.proofs.draw.Fields.{length-fields_of}
use Rattle.r9_draw.proofs.draw.draw.Draw.read_ctl.Goals as goal

pub returns-clause-len : goal.returns-clause-len
returns-clause-len c =
    ap length c.in_ok-bytes.ensures
    ∙ length-fields_of c.args.number c.described_by-id.result c.image_info-info.result (omega (arith, c.ranges.number.fits)) (omega (arith, c.described_by-id.type_inv)) c.image_info-info.ensures.near c.image_info-info.ensures.clip
