use Rattle.std.proofs.Common.{refl}
use Rattle.r9_opts.specs.declared.job.Job.TheVariants.{Replay}
use Rattle.r9_hall.specs.hall.WorldView.{world_in}
use Rattle.r9_serve.specs.replay.Replayed.{output}
use Rattle.r9_serve.proofs.serve.call.replay.Goals as goal

pub returns-in-Ok-put_output-clause-out : goal.returns-in-Ok-put_output-clause-out
returns-in-Ok-put_output-clause-out g c = record {
  job = Replay c.args.opening c.args.screen;
  is_asked = refl;
  lines = output c.args.screen c.in-Ok.ended.log (world_in c.in-Ok.ended.world);
  are_lines = c.in-Ok.ensures.lines c.args.screen;
  appended = c.in-Ok-put_output.ensures.ok.0;
}
