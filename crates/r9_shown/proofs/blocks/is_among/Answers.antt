use Rattle.std.proofs.Common.{◌∙◌, ◌+◌, ◌<◌, ◌≤◌, length, ap, arith, ⊎_elim}
use Rattle.std.specs.Prelude.{◌==◌}
use Rattle.std.proofs.lemmas.Bool.{cases_lt, ne_eqb}
use Rattle.model_forest.specs.declared.Window.{Window}
use Rattle.r9_locate.proofs.locate.Rowed.{here_is}
use Rattle.r9_shown.proofs.blocks.is_among.Goals as goal

pub returns : goal.returns
returns c e k d past before =
    let ws = c.args.windows.now in
    let at = c.args.at in
    let below : k < length ws = omega (arith, before, c.requires) in
    ⊎_elim
    (λ (first : k < at + 1). ap (λ (w : Window). w.image == c.args.i) (here_is ws k at d _ (omega (arith, first, past)) below) ∙ ne_eqb _ _ c.if-windows-at.false)
    (λ (late : at + 1 ≤ k).
    ⊎_elim
    (λ (second : k < at + 2). ap (λ (w : Window). w.image == c.args.i) (here_is ws k (at + 1) d _ (omega (arith, second, late)) below) ∙ ne_eqb _ _ c.if-windows-at-2.false)
    (λ (later : at + 2 ≤ k).
    ⊎_elim
    (λ (third : k < at + 3). ap (λ (w : Window). w.image == c.args.i) (here_is ws k (at + 2) d _ (omega (arith, third, later)) below) ∙ ne_eqb _ _ c.if-windows-at-3.false)
    (λ (last : at + 3 ≤ k). ap (λ (w : Window). w.image == c.args.i) (here_is ws k (at + 3) d _ (omega (arith, last, before)) below) ∙ e)
    (cases_lt k (at + 3)))
    (cases_lt k (at + 2)))
    (cases_lt k (at + 1))
