-- What becomes of a rio.
use Rattle.r9_event.specs.declared.window.Rio.{Rio}
use Rattle.model_rio.specs.rio.Rio.{next_number}
use Rattle.r9_wmgr.specs.declared.stacking.lists.Change.{Change}
use Rattle.r9_wmgr.specs.declared.stacking.lists.Change.TheVariants as change

abbrev pub by : Change → Rio → Rio
by (change.Current current) rio = record rio { current = current }
by (change.Hold hold) rio = record rio { hold = hold }
by change.Next rio = record rio { next = next_number rio.next }
