use Rattle.std.proofs.Common.{rules, ◌≡◌}
use Rattle.std.specs.Map.{set_value}
use Rattle.std.specs.Option.{ghost_name_of}
use Rattle.r9_fids.specs.Fids.{is_fid}
use borrow.Follows.Closed.{read_of}
use Rattle.r9_fids.proofs.table.FidTable.get_mut.Goals as goal

pub returns : goal.returns
returns g c =
    let written : (w : g.row.F.Denot) → (c.get_mut.follows.lender w).entries ≡ set_value (is_fid c.args.fid) c.args.self.now w = λ w. search rules in
    let kept : c.get_mut.follows.lender-at-none.entries ≡ c.args.self.now = search rules in
    (λ i. read_of (ghost_name_of c.get_mut.result) (λ w. written w i) (kept i), record { writes_back = tt; value = search rules })
