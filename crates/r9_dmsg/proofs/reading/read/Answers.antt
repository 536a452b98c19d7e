use Rattle.r9_dmsg.proofs.Told.{first-at, first-empty}
use Rattle.r9_dmsg.proofs.reading.read.Goals as goal

pub returns-in-empty-clause-told : goal.returns-in-empty-clause-told
returns-in-empty-clause-told c = first-empty c.args.bytes.now c.in-empty.len_below

pub returns-in-len1-up-clause-told : goal.returns-in-len1-up-clause-told
returns-in-len1-up-clause-told c = rw (first-at c.args.bytes.now c.in-len1-up.len_at_least) c.behind.ensures.told
