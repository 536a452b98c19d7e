use Rattle.r9_attend.proofs.attend.TheEnd.{end_made, end_ended}
use Rattle.r9_attend.proofs.attend.room.end_session.Goals as goal

pub returns-clause-made : goal.returns-clause-made
returns-clause-made g c = end_made g.T.Serves.server c.args.room.now.session c.args.pass.now c.ask.new.pass c.ask.result c.ask.ensures.ok c.ask.ensures.err

pub returns-clause-ended : goal.returns-clause-ended
returns-clause-ended g c = end_ended g.T.Serves.server c.args.room.now.session c.args.pass.now c.ask.new.pass c.ask.result c.ask.ensures.ok c.ask.ensures.err
