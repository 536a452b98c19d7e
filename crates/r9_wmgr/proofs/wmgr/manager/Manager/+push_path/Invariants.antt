use Rattle.r9_wmgr.proofs.wmgr.manager.Manager.+push_path.Given as goal

abbrev pub decreases-push_path : goal.decreases-push_path
decreases-push_path l = l.levels
