use Rattle.r9_wmgr.proofs.wmgr.manager.Manager.+count_up.Given as goal

abbrev pub decreases-count_up : goal.decreases-count_up
decreases-count_up l = l.levels
