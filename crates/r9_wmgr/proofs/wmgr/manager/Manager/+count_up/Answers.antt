use Rattle.std.proofs.Common.{◌∙◌, sym, ap, ◌-◌, ◌∷◌, [], length, arith}
use Rattle.std.proofs.lemmas.List.{length-append}
use Rattle.model_rio.specs.rio.Table as model
use Rattle.r9_wmgr.proofs.wmgr.Levels.{path_up-zero, path_up-none, path_up-some}
use Rattle.r9_wmgr.proofs.wmgr.manager.Manager.+count_up.Goals as goal

pub returns-then-levels-eq0-clause-value : goal.returns-then-levels-eq0-clause-value
returns-then-levels-eq0-clause-value t c = sym (ap length (path_up-zero _ _ _ c.if-levels-eq0.true))

pub returns-in-Some-clause-value : goal.returns-in-Some-clause-value
returns-in-Some-clause-value t c =
    omega (
      arith,
      c.count_up.ensures.value,
      ap length (path_up-some c.args.levels c.args.self.now c.args.serial c.in-Some.w c.if-levels-eq0.false (sym c.window_of.ensures ∙ c.in-Some.is)),
      length-append (model.path_up (c.args.levels - 1) c.args.self.now c.in-Some.w.host) (c.in-Some.w.number ∷ []),
    )

pub returns-in-None-clause-value : goal.returns-in-None-clause-value
returns-in-None-clause-value t c = sym (ap length (path_up-none _ _ _ (sym c.window_of.ensures ∙ c.in-None.is)))
