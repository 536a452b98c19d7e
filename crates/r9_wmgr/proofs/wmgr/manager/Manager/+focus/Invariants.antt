use Rattle.r9_wmgr.proofs.wmgr.manager.Manager.+focus.Given as goal

abbrev pub decreases-focus : goal.decreases-focus
decreases-focus l = l.levels
