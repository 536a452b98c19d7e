use Rattle.std.proofs.Common.{◌∙◌, ◌-◌, true, sym, arith}
use Rattle.model_rio.specs.rio.Moving.{carried, moved}
use Rattle.r9_wmgr.proofs.wmgr.Levels.{moved-zero, moved-each, each-refused, each-done, carried-near, carried-far}
use Rattle.r9_wmgr.proofs.wmgr.Results.{same_fault, if_refused}
use Rattle.r9_wmgr.proofs.wmgr.draft.Draft.+give_rectangle.Goals as goal

pub returns-then-levels-eq0-clause-done : goal.returns-then-levels-eq0-clause-done
returns-then-levels-eq0-clause-done t c = moved-zero _ _ _ _ _ c.if-levels-eq0.true

pub returns-in_default-clause-refused : goal.returns-in_default-clause-refused
returns-in_default-clause-refused t c =
    let far = carried-far (moved (c.args.levels - 1) true) c.way_to-by.result c.v-item.result c.loop-v.self (sym c.moved.ensures ∙ c.in_default.is) in
    moved-each c.args.levels c.args.keep c.args.w.now c.args.r c.args.self.now c.lead.new.self c.way_to-by.result c.in_ok-inner.inner.items c.deref-v-items.result.now c.if-levels-eq0.false c.in_ok-inner.ensures c.way_to-by.ensures.value c.deref-v-items.ensures.value
    ∙ sym c.loop-v.invariant
    ∙ each-refused (carried (moved (c.args.levels - 1) true) c.way_to-by.result) c.loop-v.self 47 c.v-item.result c.deref-v-items.result.now c.loop-v.v-index _ (omega arith) c.v-item.is far

pub returns-in_err-give_rectangle-clause-refused : goal.returns-in_err-give_rectangle-clause-refused
returns-in_err-give_rectangle-clause-refused t c =
    let near = carried-near (moved (c.args.levels - 1) true) c.way_to-by.result c.v-item.result c.in-Some.to c.loop-v.self (sym c.moved.ensures ∙ c.in-Some.is) in
    let all = moved-each c.args.levels c.args.keep c.args.w.now c.args.r c.args.self.now c.lead.new.self c.way_to-by.result c.in_ok-inner.inner.items c.deref-v-items.result.now c.if-levels-eq0.false c.in_ok-inner.ensures c.way_to-by.ensures.value c.deref-v-items.ensures.value ∙ sym c.loop-v.invariant in
    same_fault c.from_residual-in_err-give_rectangle.result c.in_err-give_rectangle.field-0.0 _ c.from_residual-in_err-give_rectangle.ensures.1
    (if_refused c.in_err-give_rectangle.field-0.0 _ _
    (λ n e. all ∙ each-refused (carried (moved (c.args.levels - 1) true) c.way_to-by.result) c.loop-v.self n c.v-item.result c.deref-v-items.result.now c.loop-v.v-index _ (omega arith) c.v-item.is (near ∙ e))
    c.in_err-give_rectangle.ensures.refused)

pub returns-clause-done : goal.returns-clause-done
returns-clause-done t c =
    moved-each c.args.levels c.args.keep c.args.w.now c.args.r c.args.self.now c.lead.new.self c.way_to-by.result c.in_ok-inner.inner.items c.deref-v-items.result.now c.if-levels-eq0.false c.in_ok-inner.ensures c.way_to-by.ensures.value c.deref-v-items.ensures.value
    ∙ sym c.loop-v.invariant
    ∙ each-done (carried (moved (c.args.levels - 1) true) c.way_to-by.result) c.loop-v.self c.deref-v-items.result.now c.loop-v.v-index c.loop-v-test.false
