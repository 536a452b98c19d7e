use Rattle.law_menus.proofs.inking.Opened.{opened_inked}
use Rattle.law_menus.proofs.menus.All.{piloted}
use Rattle.law_menus.proofs.menus.desk_histories_are_piloted.Goals as goal

pub returns : goal.returns
returns c = piloted opened_inked
