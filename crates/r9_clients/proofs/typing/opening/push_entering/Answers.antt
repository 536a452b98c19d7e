use Rattle.std.proofs.Common.{[], ◌∷◌, ap}
use Rattle.model_files.specs.wire.Message.{Tattach, no_fid}
use Rattle.model_clients.specs.client.Saying.{hello}
use Rattle.model_clients.specs.page.Text.{asked}
use Rattle.r9_clients.specs.page.Shown.{shape_of}
use Rattle.r9_clients.specs.saying.Lines.{IsSaid}
use Rattle.r9_clients.proofs.saying.Said.{on_ok_then, said_as, said_more}
use Rattle.r9_clients.proofs.typing.Fits.{window_said}
use Rattle.r9_clients.proofs.typing.opening.push_entering.Goals as goal

pub push_attach-requires : goal.push_attach-requires
push_attach-requires c = window_said (shape_of c.args.shape) c.in_ok-name.name c.requires c.in_ok-name.ensures

pub returns : goal.returns
returns c =
    let name = c.in_ok-name.name in
    let all = asked (shape_of c.args.shape) in
    let root = Tattach 1 0 no_fid [] in
    let before = c.args.out.now in
    let between = c.push_hello.new.out in
    let after = c.push_attach.new.out in
    on_ok_then c.push_attach.result (IsSaid between after (root name ∷ [])) (IsSaid before after (hello ∷ root all ∷ []))
    (λ said. said_more (hello ∷ []) (root all ∷ []) before between after c.in_ok-push_hello.ensures (said_as (root name) (root all) between after (ap root c.in_ok-name.ensures) said))
    c.push_attach.ensures
