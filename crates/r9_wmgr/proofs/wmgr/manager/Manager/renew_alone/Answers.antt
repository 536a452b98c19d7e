use Rattle.r9_wmgr.proofs.wmgr.Renewed.{renewed_alone}
use Rattle.r9_wmgr.proofs.wmgr.manager.Manager.renew_alone.Goals as goal

pub returns-clause-done : goal.returns-clause-done
returns-clause-done c =
    renewed_alone c.args.keep c.args.w.now c.renewed-next.result c.args.r c.args.self.now c.replace.new.self _ _ c.requires c.renewed-next.ensures c.in_ok-step.ensures.orders c.in_ok-step.ensures.notes c.replace.ensures
