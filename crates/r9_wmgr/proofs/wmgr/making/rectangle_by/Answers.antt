use Rattle.std.proofs.Common.{◌∙◌, sym, ap, Some}
use Rattle.r9_wmgr.proofs.wmgr.Levels.{near_by, far_by}
use Rattle.r9_wmgr.proofs.wmgr.Windows.{near_applied}
use Rattle.r9_wmgr.proofs.wmgr.making.rectangle_by.Goals as goal

pub returns-in-Some-clause-rectangle : goal.returns-in-Some-clause-rectangle
returns-in-Some-clause-rectangle c = c.in-Ok.ensures.rectangle ∙ ap Some (near_by _ _ _ (sym c.new.ensures ∙ c.in-Some.is)).1

pub returns-in-None-clause-refused : goal.returns-in-None-clause-refused
returns-in-None-clause-refused c = absurd (near_applied _ _ _ _ c.in-Ok.ensures.rectangle (far_by _ _ (sym c.new.ensures ∙ c.in-None.is)))
