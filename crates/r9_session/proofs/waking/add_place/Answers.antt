use Rattle.r9_session.proofs.Places.{pushed_here, pushed_more}
use Rattle.r9_session.proofs.waking.add_place.Goals as goal

pub returns-clause-kept : goal.returns-clause-kept
returns-clause-kept c = pushed_more c.push.result c.args.places.now c.push.new.self c.args.serial c.push.ensures.ok c.push.ensures.err

pub returns-clause-here : goal.returns-clause-here
returns-clause-here c = pushed_here c.push.result c.args.places.now c.push.new.self c.args.serial c.push.ensures.ok
