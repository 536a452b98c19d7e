use Rattle.std.proofs.Common.{◌+◌, ◌++◌, ◌∷◌, [], List, sym, ap, subst, ◌∙◌}
use Rattle.r9_images.specs.declared.uses.rows.WindowRow.{WindowRow}
use Rattle.r9_images.specs.uses.Windows.{AreMade, Standing, windows_of}
use Rattle.r9_images.proofs.uses.Making.{are-pushed, windows-pushed}
use Rattle.r9_images.proofs.uses.windows.Windows.push.Goals as goal

pub invariant_of-self : goal.invariant_of-self
invariant_of-self c =
    let P : List WindowRow → Type 0 = λ rows. AreMade rows (c.self.inside.made + 1) in
    subst P (sym c.put.ensures.rows) (are-pushed c.self.inside.rows.rows c.self.inside.made c.self.invariant c.args.window)

pub returns-clause-windows : goal.returns-clause-windows
returns-clause-windows c =
    ap (λ (rows : List WindowRow). windows_of rows (c.self.inside.made + 1)) c.put.ensures.rows
    ∙ windows-pushed c.self.inside.rows.rows c.self.inside.made c.self.invariant c.args.window
    ∙ ap (λ (x : Standing). x.windows ++ c.args.window ∷ []) c.self.view_is
