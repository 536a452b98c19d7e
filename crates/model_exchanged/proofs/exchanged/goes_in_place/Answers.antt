use Rattle.model_exchanged.proofs.exchanged.Replaced.{on_goes, on_goes_drawn, on_same, under_goes, under_goes_drawn, under_same}
use Rattle.model_exchanged.proofs.exchanged.goes_in_place.Goals as goal

pub returns-clause-under_same : goal.returns-clause-under_same
returns-clause-under_same c = λ world i old r corner raw keep ok free some. under_same world i old r corner raw keep ok free some

pub returns-clause-under : goal.returns-clause-under
returns-clause-under c = λ world i old p r corner raw keep ok free some is. under_goes world i old r corner raw keep ok free some p is

pub returns-clause-under_drawn : goal.returns-clause-under_drawn
returns-clause-under_drawn c = λ world i old p r corner raw keep area new ok free some is. under_goes_drawn world i old r corner raw keep ok free some p area new is

pub returns-clause-on_same : goal.returns-clause-on_same
returns-clause-on_same c = λ world i old p fill r corner raw keep ok free some live. on_same world i old r corner raw keep ok free some p fill live

pub returns-clause-on : goal.returns-clause-on
returns-clause-on c = λ world i old p fill r corner raw keep ok free some live is. on_goes world i old r corner raw keep ok free some p fill live is

pub returns-clause-on_drawn : goal.returns-clause-on_drawn
returns-clause-on_drawn c = λ world i old p fill r corner raw keep area new ok free some live is. on_goes_drawn world i old r corner raw keep ok free some p fill live area new is
