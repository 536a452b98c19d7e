use Rattle.r9_used.proofs.looked.Reading.{looked_listed}
use Rattle.r9_used.proofs.looked.first.look_first.Goals as goal

pub returns : goal.returns
returns c =
    looked_listed c.args.panes.now.entries c.args.bytes.now c.args.uses.now c.look_listed.new.uses c.in-Some.asked c.spelled_len.result c.in-Some.ensures.found c.in-Some.ensures.within
    c.spelled_len.ensures c.in_ok-look_listed.ensures
