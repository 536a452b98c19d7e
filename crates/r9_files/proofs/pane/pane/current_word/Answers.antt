use Rattle.std.proofs.Common.{codes, if◌then◌else◌, Bool, sym, ap}
use Rattle.r9_files.proofs.pane.pane.current_word.Goals as goal

pub returns-then-current-clause-word : goal.returns-then-current-clause-word
returns-then-current-clause-word c = ap (λ (b : Bool). codes (if b then "current " else "notcurrent ")) (sym c.if-current.true)

pub returns-else-current-clause-word : goal.returns-else-current-clause-word
returns-else-current-clause-word c = ap (λ (b : Bool). codes (if b then "current " else "notcurrent ")) (sym c.if-current.false)
