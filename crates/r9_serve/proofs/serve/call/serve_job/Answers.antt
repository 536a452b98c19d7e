use Rattle.std.proofs.Common.{refl}
use Rattle.r9_serve.proofs.serve.call.serve_job.Goals as goal

pub returns : goal.returns
returns g c = λ listen. record {
  opening = c.args.service.now.opening;
  listen = listen;
  workers = c.args.service.now.workers;
  conns = c.args.service.now.sessions;
  is_asked = refl;
  outcome = c.serve-served.result.outcome;
  status = c.status_of.ensures;
  serving = c.serve-served.ensures;
}
