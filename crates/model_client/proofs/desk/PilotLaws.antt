-- The table and the texts, said of the whole list of events.
use Rattle.std.proofs.Common.{◌≡◌, List, [], ◌∷◌, ◌++◌, sym, ap, ◌∙◌, append_assoc, append-nil}
use Rattle.std.proofs.lemmas.List.Sums.{fold-append}
use Rattle.std.specs.List.{fold}
use Rattle.model_files.specs.declared.mouse.Mouse.{Mouse}
use Rattle.model_client.specs.desk.Table.{Desk, start}
use Rattle.model_client.specs.desk.Spelled.{Text}
use Rattle.model_client.specs.desk.Pilot.{after, written, written_from, pilot, after_all}

pub table : (before : List Mouse) (e : Mouse) → after_all (before ++ e ∷ []) ≡ after (after_all before) e
unfolding after_all
table before e = fold-append after start before (e ∷ [])

from : (d : Desk) (before : List Mouse) (e : Mouse) → written_from d (before ++ e ∷ []) ≡ written_from d before ++ written (fold after d before) e
from d [] e = append-nil (written d e)
from d (first ∷ before) e =
    ap (λ (texts : List Text). written d first ++ texts) (from (after d first) before e)
    ∙ sym (append_assoc (written d first) (written_from (after d first) before) (written (fold after (after d first) before) e))

pub texts : (before : List Mouse) (e : Mouse) → pilot (before ++ e ∷ []) ≡ pilot before ++ written (after_all before) e
unfolding after_all pilot
texts before e = from start before e
