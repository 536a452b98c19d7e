use Rattle.std.proofs.Common.{◌≡◌, ◌-◌, length, arith}
use Rattle.r9_text.proofs.Padded.{put_mid-field}
use Rattle.r9_text.proofs.field.push_word.Goals as goal

pub returns-clause-ok : goal.returns-clause-ok
returns-clause-ok c =
    let w = c.args.w.now in
    let copied : c.copy_from_slice.new.self ≡ w = c.copy_from_slice.ensures.after in
    let same : 11 - (11 - length w) ≡ length w = omega (arith, c.requires) in
    rw (copied, put_mid-field (11 - (11 - length w)) w c.requires same) at c.push_all.ensures.ok
