use Rattle.std.proofs.Common.{[], ◌∷◌}
use Rattle.model_files.specs.wire.Message.{Topen, Twalk}
use Rattle.r9_clients.specs.saying.Lines.{IsSaid, opens}
use Rattle.r9_clients.proofs.saying.Fits.{open_said}
use Rattle.r9_clients.proofs.saying.Said.{on_ok_then, said_more}
use Rattle.r9_clients.proofs.saying.opening.push_opens.Goals as goal

pub push_said-requires-2 : goal.push_said-requires-2
push_said-requires-2 c = open_said c.args.fid c.args.mode c.ranges.fid.fits c.ranges.mode.fits

pub returns : goal.returns
returns c =
    let walk = Twalk 1 0 c.args.fid c.args.names in
    let open_ = Topen 1 c.args.fid c.args.mode in
    let before = c.args.out.now in
    let between = c.push_said.new.out in
    let after = c.push_said-2.new.out in
    on_ok_then c.push_said-2.result (IsSaid between after (open_ ∷ [])) (IsSaid before after (opens c.args.names c.args.fid c.args.mode))
    (said_more (walk ∷ []) (open_ ∷ []) before between after c.in_ok-push_said.ensures) c.push_said-2.ensures
