use Rattle.r9_wmgr.proofs.wmgr.draft.Draft.+mouse.Given as goal

abbrev pub decreases-mouse : goal.decreases-mouse
decreases-mouse l = l.levels
