use Rattle.std.proofs.Common.{codes, if◌then◌else◌, Bool, sym, ap}
use Rattle.r9_files.proofs.pane.pane.hidden_word.Goals as goal

pub returns-then-hidden-clause-word : goal.returns-then-hidden-clause-word
returns-then-hidden-clause-word c = ap (λ (b : Bool). codes (if b then "hidden " else "visible ")) (sym c.if-hidden.true)

pub returns-else-hidden-clause-word : goal.returns-else-hidden-clause-word
returns-else-hidden-clause-word c = ap (λ (b : Bool). codes (if b then "hidden " else "visible ")) (sym c.if-hidden.false)
