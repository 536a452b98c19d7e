use Rattle.r9_serve.proofs.serve.Making.{made_counted}
use Rattle.r9_serve.proofs.serve.generate.run_made.Goals as goal

pub returns : goal.returns
returns c =
    let ran = c.run_counted.ensures in
    made_counted c.args.number _ _ c.run_counted.result c.made_for.ensures c.in_ok-entries.ensures.made ran.events ran.replies ran.pixels ran.tiles ran.most
