use Rattle.std.proofs.Common.{◌≡◌, ◌<◌, AllPairs, arith, sym, subst}
use Rattle.std.proofs.lemmas.Grind.{common_steps}
use Rattle.model_rio.specs.rio.Table.{serials_of}
use Rattle.model_rio.proofs.rio.Listing.{listed_up}
use Rattle.r9_wmgr.proofs.wmgr.manager.Manager.windows.Goals as goal

pub returns-clause-ascending : goal.returns-clause-ascending
unfolding serials_of
returns-clause-ascending c = λ ok.
    let is : c.loop-w.serials ≡ serials_of c.args.self.now c.args.rio = grind (arith, common_steps) in
    subst (AllPairs ◌<◌) (sym is) (listed_up c.args.self.now c.args.rio ok)
