use Rattle.std.proofs.Common.{refl}
use Rattle.r9_dmsg.proofs.Told.{first-at, first-empty}
use Rattle.r9_dmsg.proofs.listed.first_listed.Goals as goal

pub returns-in-empty-clause-read : goal.returns-in-empty-clause-read
returns-in-empty-clause-read c = rw (first-empty c.args.bytes.now c.in-empty.len_below) refl

pub returns-in-len1-up-clause-read : goal.returns-in-len1-up-clause-read
returns-in-len1-up-clause-read c = rw (first-at c.args.bytes.now c.in-len1-up.len_at_least) c.behind_letter.ensures.read
