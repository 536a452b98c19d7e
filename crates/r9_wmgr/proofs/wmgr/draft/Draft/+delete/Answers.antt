use Rattle.std.proofs.Common.{◌∙◌, sym, ap}
use Rattle.model_rio.specs.rio.Table.{made_in}
use Rattle.r9_wmgr.proofs.wmgr.Levels.{deleted-zero, deleted-all}
use Rattle.r9_wmgr.proofs.wmgr.Results.{on_ok}
use Rattle.r9_wmgr.proofs.wmgr.draft.Draft.+delete.Goals as goal

pub returns-then-levels-eq0 : goal.returns-then-levels-eq0
returns-then-levels-eq0 t c = sym (deleted-zero _ _ _ c.if-levels-eq0.true)

pub returns : goal.returns
returns t c =
    let inner = c.deref-v-items.ensures.value ∙ c.in_ok-inner.ensures ∙ ap (λ step. made_in step.table c.args.w.now.serial) c.self.view_is in
    on_ok c.let_go.result (deleted-all c.args.levels c.args.w.now c.args.self.now c.loop-v.self _ c.deref-v-items.result.now c.loop-v.v-index c.if-levels-eq0.false inner c.loop-v-test.false c.loop-v.invariant) c.let_go.ensures
