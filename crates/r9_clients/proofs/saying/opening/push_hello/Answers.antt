use Rattle.std.proofs.Common.{[], ◌∷◌}
use Rattle.model_clients.specs.client.Saying.{hello}
use Rattle.r9_wire.specs.View.{t_of}
use Rattle.r9_clients.specs.saying.Lines.{IsSaid}
use Rattle.r9_clients.proofs.saying.Fits.{hello_said}
use Rattle.r9_clients.proofs.saying.Said.{on_ok_then, said_as}
use Rattle.r9_clients.proofs.saying.opening.push_hello.Goals as goal

pub push_said-requires : goal.push_said-requires
push_said-requires c = hello_said (t_of c.in_ok-version.version) c.in_ok-version.ensures

pub returns : goal.returns
returns c =
    let m = t_of c.in_ok-version.version in
    let before = c.args.out.now in
    let after = c.push_said.new.out in
    on_ok_then c.push_said.result (IsSaid before after (m ∷ [])) (IsSaid before after (hello ∷ [])) (said_as m hello before after c.in_ok-version.ensures) c.push_said.ensures
